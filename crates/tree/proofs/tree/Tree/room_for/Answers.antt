use Rattle.tree.proofs.Common.{ap, is_some, subst, sym, ◌∙◌, flat_map, place_bytes, Name, NameOrFree, Scans}
use Rattle.tree.proofs.Following.{end-lost, folder-now, folder-was, now-begin, now-read, now-up}
use Rattle.tree.proofs.Ending.{end-read}
use Rattle.tree.proofs.Places.{folder-fits}
use Rattle.tree.proofs.Scanning.{free-told, later-told, none-told, unnamed-told}
use Rattle.tree.specs.Calls.{TellsRoomFor}
use Rattle.tree.proofs.tree.Tree.room_for.Goals as goal

pub returns-in_err-count : goal.returns-in_err-count
returns-in_err-count g c = end-lost now-begin c.count_places.ensures c.in_err-count.was c.from_residual.ensures.1

pub scan-requires : goal.scan-requires
scan-requires g c =
    let now = now-read now-begin c.count_places.ensures c.in_ok-count.was in
    record {
      up = now-up now c.requires.up;
      directory = folder-now now c.requires.directory;
      count = λ f. c.in_ok-count.ensures.serves.told.1 (folder-was now f);
    }

pub returns-in_err-first : goal.returns-in_err-first
returns-in_err-first g c =
    end-lost (now-read now-begin c.count_places.ensures c.in_ok-count.was) c.scan.ensures c.in_err-first.was
    c.from_residual-in_err-first.ensures.1

pub returns-in_default : goal.returns-in_default
returns-in_default g c =
    let now = now-read now-begin c.count_places.ensures c.in_ok-count.was in
    end-read c.requires.up (now-read now c.scan.ensures c.in_ok-first.was) (λ f.
    let none = none-told f.places (folder-fits c.is_whole.ensures f) c.args.name
    (subst (Scans (NameOrFree c.args.name) (flat_map place_bytes f.places) 0) c.in_default.is
    (c.in_ok-first.ensures.serves.told.1 (folder-now now f))) _ (c.in_ok-count.ensures.serves.told.1 f) in
    subst (TellsRoomFor f.places c.args.name.now) (sym c.room_behind.ensures) (unnamed-told _ _ _ none.0 none.1))

-- after the search for the name or a free slot
pub scan-requires-2 : goal.scan-requires-2
scan-requires-2 g c =
    let now = now-read (now-read now-begin c.count_places.ensures c.in_ok-count.was) c.scan.ensures c.in_ok-first.was in
    record {
      up = now-up now c.requires.up;
      directory = folder-now now c.requires.directory;
      count = λ f. c.in_ok-count.ensures.serves.told.1 (folder-was now f);
    }

pub returns-in_err-scan : goal.returns-in_err-scan
returns-in_err-scan g c =
    end-lost (now-read (now-read now-begin c.count_places.ensures c.in_ok-count.was) c.scan.ensures c.in_ok-first.was)
    c.scan-2.ensures c.in_err-scan.was c.from_residual-in_err-scan.ensures.1

pub returns-in_default-2 : goal.returns-in_default-2
returns-in_default-2 g c =
    let was = now-read now-begin c.count_places.ensures c.in_ok-count.was in
    let now = now-read was c.scan.ensures c.in_ok-first.was in
    end-read c.requires.up (now-read now c.scan-2.ensures c.in_ok-scan.was) (λ f.
    let first = subst (Scans (NameOrFree c.args.name) (flat_map place_bytes f.places) 0) c.in-Some.is
    (c.in_ok-first.ensures.serves.told.1 (folder-now was f)) in
    ap is_some (sym (later-told f.places (folder-fits c.is_whole.ensures f) c.args.name c.in-Some.first first _
    (c.in_ok-scan.ensures.serves.told.1 (folder-now now f))) ∙ c.in_default-2.is))

pub returns : goal.returns
returns g c =
    let was = now-read now-begin c.count_places.ensures c.in_ok-count.was in
    let now = now-read was c.scan.ensures c.in_ok-first.was in
    end-read c.requires.up (now-read now c.scan-2.ensures c.in_ok-scan.was) (λ f.
    let fits = folder-fits c.is_whole.ensures f in
    let first = subst (Scans (NameOrFree c.args.name) (flat_map place_bytes f.places) 0) c.in-Some.is
    (c.in_ok-first.ensures.serves.told.1 (folder-now was f)) in
    let none = subst (Scans (Name c.args.name) (flat_map place_bytes f.places) c.in-Some.first.place) c.in-None.is
    (c.in_ok-scan.ensures.serves.told.1 (folder-now now f)) in (
      sym (later-told f.places fits c.args.name c.in-Some.first first _ none),
      free-told f.places fits c.args.name c.in-Some.first first none,
    ))
