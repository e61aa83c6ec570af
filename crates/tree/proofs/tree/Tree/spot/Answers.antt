use Rattle.tree.proofs.Common.{ap, refl, sym, ◌∙◌, option_map}
use Rattle.tree.proofs.Ending.{acts-done, acts-lost, acts-not}
use Rattle.tree.proofs.Following.{now-begin, now-files, now-node, now-read, now-up, told-now}
use Rattle.tree.proofs.Naming.{above-node, spot-bare, spot-live, spot-none, spot-other}
use Rattle.tree.proofs.tree.Tree.spot.Goals as goal

-- what all but the last name reach: c.in_ok-number.ensures says it of c.in_ok-number.field-0, which the arm names

pub returns-in_err-number : goal.returns-in_err-number
returns-in_err-number g c = acts-lost now-begin c.reach.ensures c.in_err-number.was c.from_residual.ensures.1

pub returns-in_default : goal.returns-in_default
returns-in_default g c =
    let none = sym c.in_ok-number.ensures.serves.told.1 ∙ ap (option_map _) c.in_default.is in
    acts-not c.requires.up (now-read now-begin c.reach.ensures c.in_ok-number.was) refl (spot-none _ _ _ none) none

pub node-requires : goal.node-requires
node-requires g c =
    let now = now-read now-begin c.reach.ensures c.in_ok-number.was in
    let is = sym c.in_ok-number.ensures.serves.told.1 ∙ ap (option_map _) c.in-Some.is in
    record {
      up = now-up now c.requires.up;
      node = now-node now _ (above-node c.requires.rules _ _ c.requires.directory _ _ is);
    }

pub returns-in_err-node : goal.returns-in_err-node
returns-in_err-node g c =
    acts-lost (now-read now-begin c.reach.ensures c.in_ok-number.was) c.node.ensures c.in_err-node.was
    c.from_residual-in_err-node.ensures.1

pub returns-then-node-ne-DIRECTORY : goal.returns-then-node-ne-DIRECTORY
returns-then-node-ne-DIRECTORY g c =
    let now = now-read now-begin c.reach.ensures c.in_ok-number.was in
    let is = sym c.in_ok-number.ensures.serves.told.1 ∙ ap (option_map _) c.in-Some.is in
    let none = spot-other c.requires.rules _ _ c.requires.directory _ _ is
    (told-now now _ c.in_ok-node.ensures.serves.told.1) c.if-node-ne-DIRECTORY.true in
    acts-not c.requires.up (now-read now c.node.ensures c.in_ok-node.was) refl none.0 none.1

pub returns-then-node-eq0 : goal.returns-then-node-eq0
returns-then-node-eq0 g c =
    let now = now-read now-begin c.reach.ensures c.in_ok-number.was in
    let is = sym c.in_ok-number.ensures.serves.told.1 ∙ ap (option_map _) c.in-Some.is in
    let none = spot-bare c.requires.rules _ _ c.requires.directory _ _ is
    (told-now now _ c.in_ok-node.ensures.serves.told.1) c.if-node-ne-DIRECTORY.false c.if-node-eq0.true in
    acts-not c.requires.up (now-read now c.node.ensures c.in_ok-node.was) refl none.0 none.1

pub returns : goal.returns
returns g c =
    let now = now-read now-begin c.reach.ensures c.in_ok-number.was in
    let is = sym c.in_ok-number.ensures.serves.told.1 ∙ ap (option_map _) c.in-Some.is in
    let live = spot-live c.requires.rules _ _ c.requires.directory _ _ is
    (told-now now _ c.in_ok-node.ensures.serves.told.1) c.if-node-ne-DIRECTORY.false c.if-node-eq0.false in
    let last = now-read now c.node.ensures c.in_ok-node.was in
    acts-done c.requires.up last (live, now-files last)
