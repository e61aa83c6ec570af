use Rattle.tree.proofs.Common.{refl, subst, HasRoom}
use Rattle.tree.proofs.Ending.{acts-done, acts-lost, acts-not, acts-refused, at-now, now-kept, was-now}
use Rattle.tree.proofs.Following.{folder-now, now-begin, now-files, now-read, now-up}
use Rattle.tree.proofs.Gaps.{gap-folder, gap-full, gap-has, gap-lacks, gap-named, gap-room, gap-unnamed}
use Rattle.tree.proofs.Naming.{spot-lacks}
use Rattle.tree.specs.Calls.{TellsRoom, TellsRoomFor}
use Rattle.tree.proofs.tree.Tree.find_gap.Goals as goal

pub returns-in_err-number : goal.returns-in_err-number
returns-in_err-number g c =
    acts-refused now-begin c.spot.ensures c.in_err-number.was (λ known less why. (tt, spot-lacks _ _ _ _ _ _ why))
    c.from_residual.ensures.1

-- after the search for the spot
pub room_for-requires : goal.room_for-requires
room_for-requires g c =
    let now = now-kept now-begin c.spot.ensures c.requires.up c.in_ok-number.was in
    record {
      up = now-up now c.requires.up;
      directory = folder-now now (gap-folder _ _ _ c.in_ok-number.ensures.done.0);
    }

pub returns-in_err-room_for : goal.returns-in_err-room_for
returns-in_err-room_for g c =
    acts-lost (now-kept now-begin c.spot.ensures c.requires.up c.in_ok-number.was) c.room_for.ensures
    c.in_err-room_for.was c.from_residual-in_err-room_for.ensures.1

pub returns-in-Named : goal.returns-in-Named
returns-in-Named g c =
    let now = now-kept now-begin c.spot.ensures c.requires.up c.in_ok-number.was in
    let spot = c.in_ok-number.ensures.done.0 in
    let told = subst (TellsRoomFor _ _) c.in-Named.is
    (c.in_ok-room_for.ensures.serves.told.1 (folder-now now (gap-folder _ _ _ spot))) in
    acts-not c.requires.up (now-read now c.room_for.ensures c.in_ok-room_for.was) refl tt
    (record { at = _; spot = spot; named = gap-named _ _ _ spot told })

pub returns-in-Full : goal.returns-in-Full
returns-in-Full g c =
    let now = now-kept now-begin c.spot.ensures c.requires.up c.in_ok-number.was in
    let spot = c.in_ok-number.ensures.done.0 in
    let told = subst (TellsRoomFor _ _) c.in-Full.is
    (c.in_ok-room_for.ensures.serves.told.1 (folder-now now (gap-folder _ _ _ spot))) in
    acts-not c.requires.up (now-read now c.room_for.ensures c.in_ok-room_for.was) refl tt
    (gap-full _ _ _ spot told.1)

-- after the search for a slot
pub has_room-requires : goal.has_room-requires
has_room-requires g c =
    let before = now-kept now-begin c.spot.ensures c.requires.up c.in_ok-number.was in
    let spot = c.in_ok-number.ensures.done.0 in
    let room = subst (TellsRoomFor _ _) c.in-At.is
    (c.in_ok-room_for.ensures.serves.told.1 (folder-now before (gap-folder _ _ _ spot))) in
    let now = now-read before c.room_for.ensures c.in_ok-room_for.was in
    record {
      up = now-up now c.requires.up;
      room = at-now now (λ t. HasRoom t.files c.in_ok-number.number c.in-At.place) (gap-room _ _ _ spot room.1);
      more = c.requires.more;
    }

pub returns-in_err-has_room : goal.returns-in_err-has_room
returns-in_err-has_room g c =
    let before = now-kept now-begin c.spot.ensures c.requires.up c.in_ok-number.was in
    acts-lost (now-read before c.room_for.ensures c.in_ok-room_for.was) c.has_room.ensures c.in_err-has_room.was
    c.from_residual-in_err-has_room.ensures.1

pub returns-then-not-branch : goal.returns-then-not-branch
returns-then-not-branch g c =
    let before = now-kept now-begin c.spot.ensures c.requires.up c.in_ok-number.was in
    let spot = c.in_ok-number.ensures.done.0 in
    let room = subst (TellsRoomFor _ _) c.in-At.is
    (c.in_ok-room_for.ensures.serves.told.1 (folder-now before (gap-folder _ _ _ spot))) in
    let now = now-read before c.room_for.ensures c.in_ok-room_for.was in
    let told = was-now now (λ t. TellsRoom t c.in_ok-number.number c.in-At.place c.args.more
    c.in_ok-has_room.field-0) c.in_ok-has_room.ensures.serves.told.1 (gap-room _ _ _ spot room.1) in
    acts-not c.requires.up (now-read now c.has_room.ensures c.in_ok-has_room.was) refl tt
    (gap-lacks _ _ _ spot room.1 _ _ told c.if-not-branch.true)

pub returns : goal.returns
returns g c =
    let before = now-kept now-begin c.spot.ensures c.requires.up c.in_ok-number.was in
    let spot = c.in_ok-number.ensures.done.0 in
    let room = subst (TellsRoomFor _ _) c.in-At.is
    (c.in_ok-room_for.ensures.serves.told.1 (folder-now before (gap-folder _ _ _ spot))) in
    let now = now-read before c.room_for.ensures c.in_ok-room_for.was in
    let told = was-now now (λ t. TellsRoom t c.in_ok-number.number c.in-At.place c.args.more
    c.in_ok-has_room.field-0) c.in_ok-has_room.ensures.serves.told.1 (gap-room _ _ _ spot room.1) in
    let last = now-read now c.has_room.ensures c.in_ok-has_room.was in
    acts-done c.requires.up last (
      gap-has _ _ _ spot room.1 _ _ told c.if-not-branch.false (gap-unnamed _ _ _ spot room.0),
      now-files last,
    )
