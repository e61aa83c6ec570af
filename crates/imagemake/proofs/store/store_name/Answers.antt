use Rattle.imagemake.proofs.Common.{◌≡◌, ap, arith, subst, sym, ◌∙◌, leb-false, leb-true, Ok, IsPlain-name, entered}
use Rattle.imagemake.proofs.Common.{Files, change_node, put, slot, appended, linked, more_links, IsNow, now-begin}
use Rattle.imagemake.proofs.Common.{now-files, now-limit, now-read, now-up, some-now, now-changed, HasDirectory, Puts}
use Rattle.imagemake.proofs.Common.{blocks_of, Entry, Directory}
use Rattle.imagemake.proofs.Filling.{lacks-growth, lacks-place, named-is, named-linked, now-looked, room-at, room-now}
use Rattle.imagemake.proofs.Filling.{room-was, within}
use Rattle.imagemake.proofs.Putting.{puts-done, puts-full, puts-lost, slot-put}
use Rattle.imagemake.proofs.Things.{thing-folder, thing-unlinked}
use Rattle.imagemake.proofs.store.store_name.Given as given
use Rattle.imagemake.proofs.store.store_name.Goals as goal
use Rattle.imagemake.proofs.store.store_name.Goals.{After-put_entry}

pub last_place-requires : goal.last_place-requires
last_place-requires g c = record { up = c.requires.up; able = c.requires.able }

pub returns-in_err-place : goal.returns-in_err-place
returns-in_err-place g c =
    λ h. puts-lost now-begin c.last_place.ensures.cause c.in_err-place.was c.from_residual.ensures.1

pub returns-in_default : goal.returns-in_default
returns-in_default g c = λ h.
    puts-full (now-looked c.last_place.ensures c.in_ok-place.was)
    (lacks-place h (record { name = c.args.name.now; number = c.args.number }) _ _
    (sym c.in_default.is ∙ c.in_ok-place.ensures.told.1 h))

pub has_room-requires : goal.has_room-requires
has_room-requires g c =
    let now = now-looked c.last_place.ensures c.in_ok-place.was in
    let h = c.requires.able in
    record {
      up = now-up now c.requires.up;
      room = room-now now (room-at h (sym (c.in_ok-place.ensures.told.1 h) ∙ c.in-Some.is));
      more = omega arith;
    }

pub returns-in_err-has_room : goal.returns-in_err-has_room
returns-in_err-has_room g c =
    λ h. puts-lost (now-looked c.last_place.ensures c.in_ok-place.was) c.has_room.ensures.serves.cause
    c.in_err-has_room.was c.from_residual-in_err-has_room.ensures.1

pub returns-then-not-branch : goal.returns-then-not-branch
returns-then-not-branch g c = λ h.
    let now = now-looked c.last_place.ensures c.in_ok-place.was in
    let room = sym (c.in_ok-place.ensures.told.1 h) ∙ c.in-Some.is in
    let few = leb-false _ _ (sym (c.in_ok-has_room.ensures.serves.told.1 (room-now now (room-at h room)))
    ∙ c.if-not-branch.true) in
    puts-full (now-read now c.has_room.ensures c.in_ok-has_room.was)
    (lacks-growth h (record { name = c.args.name.now; number = c.args.number }) _ _ c.in-Some.place room
    (omega (arith, few, ap blocks_of (now-files now), now-limit now)))

pub put_entry-requires : goal.put_entry-requires
put_entry-requires g c =
    let now = now-looked c.last_place.ensures c.in_ok-place.was in
    let last = now-read now c.has_room.ensures c.in_ok-has_room.was in
    let h = c.requires.able in
    record {
      up = now-up last c.requires.up;
      plain = λ m l. IsPlain-name (record { name = c.args.name.now; number = m }) c.requires.name l;
      number = some-now last c.args.number c.requires.number;
      room = room-now last (room-at h (sym (c.in_ok-place.ensures.told.1 h) ∙ c.in-Some.is));
      fits = λ r.
          let enough = leb-true _ _
          (sym (c.in_ok-has_room.ensures.serves.told.1 (room-now now (room-was last r)))
          ∙ c.if-not-branch.false) in
          omega (
            arith,
            enough,
            ap blocks_of (now-files now),
            ap blocks_of (now-files last),
            now-limit now,
            now-limit last,
          );
    }

pub returns-in_err-put_entry : goal.returns-in_err-put_entry
returns-in_err-put_entry g c = λ h.
    puts-lost (now-read (now-looked c.last_place.ensures c.in_ok-place.was) c.has_room.ensures c.in_ok-has_room.was)
    c.put_entry.ensures.serves.cause c.in_err-put_entry.was c.from_residual-in_err-put_entry.ensures.1

-- the directory has its new name
put-name : (g : given.Over) (c : After-put_entry g) → c.put_entry.result ≡ Ok tt
    → (h : HasDirectory c.args.tree.now.files c.args.directory)
    → IsNow c.args.tree.now c.put_entry.new.self
    (put c.args.tree.now.files c.args.directory
    (appended (record { name = c.args.name.now; number = c.args.number }) (Directory h.links h.places)))
put-name g c was h =
    let now = now-read (now-looked c.last_place.ensures c.in_ok-place.was) c.has_room.ensures c.in_ok-has_room.was in
    let entry : Entry = record { name = c.args.name.now; number = c.args.number } in
    subst (IsNow c.args.tree.now c.put_entry.new.self)
    (named-is h entry c.in-Some.place (sym (c.in_ok-place.ensures.told.1 h) ∙ c.in-Some.is))
    (now-changed now (λ (fs : Files). entered fs c.args.directory c.in-Some.place entry) c.put_entry.ensures was)

pub returns-then-not-is_directory : goal.returns-then-not-is_directory
returns-then-not-is_directory g c = λ h.
    let named = appended (record { name = c.args.name.now; number = c.args.number }) (Directory h.links h.places) in
    subst (λ x. Puts c.args.tree.now c.put_entry.new.self c.args.directory x (Ok tt))
    (sym (thing-unlinked c.args.thing.now named (sym c.is_directory.ensures ∙ c.if-not-is_directory.true)))
    (puts-done (put-name g (goal.at.returns-then-not-is_directory g c).After-put_entry c.in_ok-put_entry.was h))

pub add_link-requires : goal.add_link-requires
add_link-requires g c =
    let h = c.requires.able in
    let entry : Entry = record { name = c.args.name.now; number = c.args.number } in
    let named = appended entry (Directory h.links h.places) in
    let now = put-name g (goal.at.add_link-requires g c).After-put_entry c.in_ok-put_entry.was h in
    record {
      up = now-up now c.requires.up;
      node = (
        named,
        ap (λ (fs : Files). slot fs c.args.directory) (now-files now)
            ∙ slot-put c.args.tree.now.files c.args.directory named (within h entry),
        h.few,
      );
    }

pub returns-in_err-add_link : goal.returns-in_err-add_link
returns-in_err-add_link g c = λ h.
    puts-lost (put-name g (goal.at.returns-in_err-add_link g c).After-put_entry c.in_ok-put_entry.was h)
    c.add_link.ensures.serves.cause c.in_err-add_link.was c.from_residual-in_err-add_link.ensures.1

pub returns : goal.returns
returns g c = λ h.
    let entry : Entry = record { name = c.args.name.now; number = c.args.number } in
    let named = appended entry (Directory h.links h.places) in
    let now = put-name g (goal.at.returns g c).After-put_entry c.in_ok-put_entry.was h in
    let more = now-changed now (λ (fs : Files). change_node fs c.args.directory more_links) c.add_link.ensures
    c.in_ok-add_link.was in
    subst (λ t. Puts c.args.tree.now c.add_link.new.self c.args.directory (linked t named) (Ok tt))
    (sym (thing-folder c.args.thing.now (sym c.is_directory.ensures ∙ c.if-not-is_directory.false)))
    (puts-done (subst (IsNow c.args.tree.now c.add_link.new.self) (named-linked h entry) more))
