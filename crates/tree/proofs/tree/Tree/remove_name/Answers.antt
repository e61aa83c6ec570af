use Rattle.tree.proofs.Common.{◌≡◌, Some, ap, refl, sym, ◌∙◌, none-some, dropped, removal, HasPlace, erase}
use Rattle.tree.proofs.Ending.{acts-done, acts-lost, acts-not, at-now, now-changed}
use Rattle.tree.proofs.Following.{now-begin, now-files, now-node, now-read, now-up, some-now, told-now}
use Rattle.tree.proofs.Unlinked.{found-node, found-parts, found-place, lookup-found, lookup-missing, naming-folder}
use Rattle.tree.proofs.Unlinked.{stays-busy, stays-dropped, stays-erased, unlinked-done, unlinked-dot, unlinked-full}
use Rattle.tree.proofs.Unlinked.{unlinked-missing}
use Rattle.tree.proofs.tree.Tree.remove_name.Goals as goal

pub returns-then-is_dot_name : goal.returns-then-is_dot_name
returns-then-is_dot_name g c =
    let dot = sym c.is_dot_name.ensures ∙ c.if-is_dot_name.true in
    acts-not c.requires.up now-begin refl (unlinked-dot _ _ dot) dot

pub find_name-requires : goal.find_name-requires
find_name-requires g c = record { up = c.requires.up; directory = naming-folder c.requires.naming }

pub returns-in_err-found : goal.returns-in_err-found
returns-in_err-found g c = acts-lost now-begin c.find_name.ensures c.in_err-found.was c.from_residual.ensures.1

pub returns-in_default : goal.returns-in_default
returns-in_default g c =
    let missing = sym (c.in_ok-found.ensures.serves.told.1 (naming-folder c.requires.naming)) ∙ c.in_default.is in
    acts-not c.requires.up (now-read now-begin c.find_name.ensures c.in_ok-found.was) refl
    (unlinked-missing c.requires.naming _ missing) (lookup-missing c.requires.naming _ missing)

-- after the search for the name
pub removal-requires : goal.removal-requires
removal-requires g c =
    let found = found-parts c.requires.naming.places _ _
    (sym (c.in_ok-found.ensures.serves.told.1 (naming-folder c.requires.naming)) ∙ c.in-Some.is) in
    let now = now-read now-begin c.find_name.ensures c.in_ok-found.was in
    record { up = now-up now c.requires.up; node = now-node now _ (found-node c.requires.naming _ found) }

pub returns-in_err-is_directory : goal.returns-in_err-is_directory
returns-in_err-is_directory g c =
    acts-lost (now-read now-begin c.find_name.ensures c.in_ok-found.was) c.removal.ensures c.in_err-is_directory.was
    c.from_residual-in_err-is_directory.ensures.1

pub returns-in_default-2 : goal.returns-in_default-2
returns-in_default-2 g c =
    let found = found-parts c.requires.naming.places _ _
    (sym (c.in_ok-found.ensures.serves.told.1 (naming-folder c.requires.naming)) ∙ c.in-Some.is) in
    let node = found-node c.requires.naming _ found in
    let now = now-read now-begin c.find_name.ensures c.in_ok-found.was in
    let none = sym (told-now now _ c.in_ok-is_directory.ensures.serves.told.1 node.0 node.1) ∙ c.in_default-2.is in
    acts-not c.requires.up (now-read now c.removal.ensures c.in_ok-is_directory.was) refl
    (unlinked-full c.requires.naming _ found node.1 none)
    (record {
      number = c.in-Some.found.number;
      node = node.0;
      named = lookup-found c.requires.naming _ found;
      here = node.1;
      busy = stays-busy node.0 none;
    })

-- after the look at its node
pub free_place-requires : goal.free_place-requires
free_place-requires g c =
    let found = found-parts c.requires.naming.places _ _
    (sym (c.in_ok-found.ensures.serves.told.1 (naming-folder c.requires.naming)) ∙ c.in-Some.is) in
    let now = now-read (now-read now-begin c.find_name.ensures c.in_ok-found.was) c.removal.ensures
    c.in_ok-is_directory.was in
    record {
      up = now-up now c.requires.up;
      place = at-now now (λ t. HasPlace t.files c.args.directory c.in-Some.found.place)
          (found-place c.requires.naming _ found);
    }

pub returns-in_err-free_place : goal.returns-in_err-free_place
returns-in_err-free_place g c =
    acts-lost (now-read (now-read now-begin c.find_name.ensures c.in_ok-found.was) c.removal.ensures
    c.in_ok-is_directory.was) c.free_place.ensures c.in_err-free_place.was
    c.from_residual-in_err-free_place.ensures.1

-- after the slot became free
pub drop_links-requires : goal.drop_links-requires
drop_links-requires g c =
    let files = c.args.self.now.files in
    let found = found-parts c.requires.naming.places _ _
    (sym (c.in_ok-found.ensures.serves.told.1 (naming-folder c.requires.naming)) ∙ c.in-Some.is) in
    let node = found-node c.requires.naming _ found in
    let now = now-changed (now-read (now-read now-begin c.find_name.ensures c.in_ok-found.was) c.removal.ensures
    c.in_ok-is_directory.was) (λ fs. erase fs c.args.directory c.in-Some.found.place) c.free_place.ensures
    c.in_ok-free_place.was in
    record {
      up = now-up now c.requires.up;
      node = some-now now _ (stays-erased files _ _ _ (λ e. none-some node.0 (sym e ∙ node.1)));
      directory = some-now now _ (stays-erased files _ _ _ (λ e. none-some _ (sym e ∙ c.requires.naming.here)));
    }

pub returns-in_err-drop_links : goal.returns-in_err-drop_links
returns-in_err-drop_links g c =
    let now = now-changed (now-read (now-read now-begin c.find_name.ensures c.in_ok-found.was) c.removal.ensures
    c.in_ok-is_directory.was) (λ fs. erase fs c.args.directory c.in-Some.found.place) c.free_place.ensures
    c.in_ok-free_place.was in
    acts-lost now c.drop_links.ensures c.in_err-drop_links.was c.from_residual-in_err-drop_links.ensures.1

pub returns : goal.returns
returns g c =
    let files = c.args.self.now.files in
    let found = found-parts c.requires.naming.places _ _
    (sym (c.in_ok-found.ensures.serves.told.1 (naming-folder c.requires.naming)) ∙ c.in-Some.is) in
    let node = found-node c.requires.naming _ found in
    let first = now-read now-begin c.find_name.ensures c.in_ok-found.was in
    let goes : removal node.0 ≡ Some c.in-Some-2.is_directory =
    sym (told-now first _ c.in_ok-is_directory.ensures.serves.told.1 node.0 node.1) ∙ c.in-Some-2.is in
    let less = now-changed (now-read first c.removal.ensures c.in_ok-is_directory.was)
    (λ fs. erase fs c.args.directory c.in-Some.found.place) c.free_place.ensures c.in_ok-free_place.was in
    let last = now-changed less (λ fs. dropped fs c.in-Some.found.number c.args.directory c.in-Some-2.is_directory)
    c.drop_links.ensures c.in_ok-drop_links.was in
    acts-done c.requires.up last (record {
      made = unlinked-done c.requires.naming _ found node.1 _ (sym c.is_dot_name.ensures ∙ c.if-is_dot_name.false) goes
          ∙ ap Some (sym (now-files last));
      named = lookup-found c.requires.naming _ found;
      stands = some-now last _ (stays-dropped (erase files c.args.directory c.in-Some.found.place) _ _ _ _
          (stays-erased files _ _ _ (λ e. none-some node.0 (sym e ∙ node.1))));
    })
