use Rattle.tree.proofs.Common.{inl, sym, ◌∙◌, refl, ap, Some, ◌<◌, ◌≡◌, KeepsTree, HasGap, LacksGap, change_node}
use Rattle.tree.proofs.Common.{links_of, slot, Node, more_links}
use Rattle.tree.proofs.Ending.{acts-done, acts-lost, acts-not, acts-refused, at-now, now-changed, now-kept, was-now}
use Rattle.tree.proofs.Following.{now-begin, now-files, now-node, now-read, now-up, told-now, used-now}
use Rattle.tree.proofs.Gaps.{none-more}
use Rattle.tree.proofs.NewFiles.{overflow-none}
use Rattle.tree.proofs.Links.{link-asked, linked-asked, linked-into, linked-nothing, reached, seen, seen-directory}
use Rattle.tree.proofs.Links.{seen-many, seen-weaker}
use Rattle.tree.specs.Calls.{filled, spot_in}
use Rattle.tree.proofs.tree.Tree.link.Goals as goal

pub find-requires : goal.find-requires
find-requires g c = record { up = c.requires.up; rules = c.requires.rules; directory = c.requires.directory }

pub returns-in_err-number : goal.returns-in_err-number
returns-in_err-number g c = acts-lost now-begin c.find.ensures c.in_err-number.was c.from_residual.ensures.1

pub returns-in_default : goal.returns-in_default
returns-in_default g c =
    let none = sym c.in_ok-number.ensures.serves.told.1 ∙ c.in_default.is in
    acts-not c.requires.up (now-read now-begin c.find.ensures c.in_ok-number.was) refl
    (overflow-none _ (linked-nothing _ _ _ _ none)) (inl none)

-- after the search for the old path
pub node-requires : goal.node-requires
node-requires g c =
    let now = now-read now-begin c.find.ensures c.in_ok-number.was in
    let found = sym c.in_ok-number.ensures.serves.told.1 ∙ c.in-Some.is in
    record {
      up = now-up now c.requires.up;
      node = now-node now _ (reached c.requires.rules _ _ c.requires.directory found);
    }

pub returns-in_err-node : goal.returns-in_err-node
returns-in_err-node g c =
    acts-lost (now-read now-begin c.find.ensures c.in_ok-number.was) c.node.ensures c.in_err-node.was
    c.from_residual-in_err-node.ensures.1

-- after the look at its node
pub returns-then-node-eq-DIRECTORY : goal.returns-then-node-eq-DIRECTORY
returns-then-node-eq-DIRECTORY g c =
    let now = now-read now-begin c.find.ensures c.in_ok-number.was in
    let s = seen c.requires.rules _ _ c.requires.directory (sym c.in_ok-number.ensures.serves.told.1 ∙ c.in-Some.is)
    (told-now now _ c.in_ok-node.ensures.serves.told.1) in
    let no = seen-directory c.args.self.now s _ c.if-node-eq-DIRECTORY.true in
    acts-not c.requires.up (now-read now c.node.ensures c.in_ok-node.was) refl no.0 no.1

pub returns-then-node-ge-MOST_LINKS : goal.returns-then-node-ge-MOST_LINKS
returns-then-node-ge-MOST_LINKS g c =
    let now = now-read now-begin c.find.ensures c.in_ok-number.was in
    let s = seen c.requires.rules _ _ c.requires.directory (sym c.in_ok-number.ensures.serves.told.1 ∙ c.in-Some.is)
    (told-now now _ c.in_ok-node.ensures.serves.told.1) in
    let no = seen-many c.args.self.now s _ c.if-node-eq-DIRECTORY.false c.if-node-ge-MOST_LINKS.true in
    acts-not c.requires.up (now-read now c.node.ensures c.in_ok-node.was) refl no.0 no.1

pub find_gap-requires : goal.find_gap-requires
find_gap-requires g c =
    let now = now-read (now-read now-begin c.find.ensures c.in_ok-number.was) c.node.ensures c.in_ok-node.was in
    record {
      up = now-up now c.requires.up;
      rules = at-now now (λ t. KeepsTree t.files) c.requires.rules;
      directory = used-now now _ c.requires.directory;
      more = none-more;
    }

pub returns-in_err-gap : goal.returns-in_err-gap
returns-in_err-gap g c =
    let before = now-read now-begin c.find.ensures c.in_ok-number.was in
    let s = seen c.requires.rules _ _ c.requires.directory (sym c.in_ok-number.ensures.serves.told.1 ∙ c.in-Some.is)
    (told-now before _ c.in_ok-node.ensures.serves.told.1) in
    let now = now-read before c.node.ensures c.in_ok-node.was in
    acts-refused now c.find_gap.ensures c.in_err-gap.was
    (λ known less why. seen-weaker c.args.self.now s _ c.if-node-eq-DIRECTORY.false c.if-node-ge-MOST_LINKS.false _
    known (was-now now (λ t. LacksGap t.block_limit t.files c.args.directory c.args.new.now 0
    c.in_err-gap.field-0.0) why)) c.from_residual-in_err-gap.ensures.1

-- after the search for a slot
pub add_link-requires : goal.add_link-requires
add_link-requires g c =
    let before = now-read now-begin c.find.ensures c.in_ok-number.was in
    let s = seen c.requires.rules _ _ c.requires.directory (sym c.in_ok-number.ensures.serves.told.1 ∙ c.in-Some.is)
    (told-now before _ c.in_ok-node.ensures.serves.told.1) in
    let second = now-read before c.node.ensures c.in_ok-node.was in
    let now = now-kept second c.find_gap.ensures c.requires.up c.in_ok-gap.was in
    record {
      up = now-up now c.requires.up;
      node = at-now now (λ t. (node : Node) × (slot t.files c.in-Some.number ≡ Some node) × (links_of node < 65535))
          (link-asked c.args.self.now s c.args.new.now c.if-node-eq-DIRECTORY.false c.if-node-ge-MOST_LINKS.false);
    }

pub returns-in_err-add_link : goal.returns-in_err-add_link
returns-in_err-add_link g c =
    let second = now-read (now-read now-begin c.find.ensures c.in_ok-number.was) c.node.ensures c.in_ok-node.was in
    acts-lost (now-kept second c.find_gap.ensures c.requires.up c.in_ok-gap.was) c.add_link.ensures
    c.in_err-add_link.was c.from_residual-in_err-add_link.ensures.1

pub put_entry-requires : goal.put_entry-requires
put_entry-requires g c =
    let before = now-read now-begin c.find.ensures c.in_ok-number.was in
    let s = seen c.requires.rules _ _ c.requires.directory (sym c.in_ok-number.ensures.serves.told.1 ∙ c.in-Some.is)
    (told-now before _ c.in_ok-node.ensures.serves.told.1) in
    let second = now-read before c.node.ensures c.in_ok-node.was in
    let third = now-kept second c.find_gap.ensures c.requires.up c.in_ok-gap.was in
    let now = now-changed third (λ fs. change_node fs c.in-Some.number more_links) c.add_link.ensures
    c.in_ok-add_link.was in
    let gap = was-now second
    (λ t. HasGap t.block_limit t.files c.args.directory c.args.new.now 0 (spot_in c.in_ok-gap.gap)
    c.in_ok-gap.gap.place) c.in_ok-gap.ensures.done.0 in
    let asked = linked-asked _ s _ c.if-node-eq-DIRECTORY.false c.if-node-ge-MOST_LINKS.false gap now c.requires.path in
    record {
      up = now-up now c.requires.up;
      plain = asked.plain;
      number = asked.node;
      room = asked.room;
      fits = asked.fits;
    }

pub returns-in_err-put_entry : goal.returns-in_err-put_entry
returns-in_err-put_entry g c =
    let second = now-read (now-read now-begin c.find.ensures c.in_ok-number.was) c.node.ensures c.in_ok-node.was in
    let third = now-kept second c.find_gap.ensures c.requires.up c.in_ok-gap.was in
    acts-lost (now-changed third (λ fs. change_node fs c.in-Some.number more_links) c.add_link.ensures
    c.in_ok-add_link.was) c.put_entry.ensures c.in_err-put_entry.was c.from_residual-in_err-put_entry.ensures.1

pub returns : goal.returns
returns g c =
    let before = now-read now-begin c.find.ensures c.in_ok-number.was in
    let s = seen c.requires.rules _ _ c.requires.directory (sym c.in_ok-number.ensures.serves.told.1 ∙ c.in-Some.is)
    (told-now before _ c.in_ok-node.ensures.serves.told.1) in
    let second = now-read before c.node.ensures c.in_ok-node.was in
    let third = now-kept second c.find_gap.ensures c.requires.up c.in_ok-gap.was in
    let now = now-changed third (λ fs. change_node fs c.in-Some.number more_links) c.add_link.ensures
    c.in_ok-add_link.was in
    let gap = was-now second
    (λ t. HasGap t.block_limit t.files c.args.directory c.args.new.now 0 (spot_in c.in_ok-gap.gap)
    c.in_ok-gap.gap.place) c.in_ok-gap.ensures.done.0 in
    let last = now-changed now (λ fs. filled fs c.in_ok-gap.gap c.in-Some.number) c.put_entry.ensures
    c.in_ok-put_entry.was in
    acts-done c.requires.up last
    (linked-into c.args.self.now s _ c.if-node-eq-DIRECTORY.false c.if-node-ge-MOST_LINKS.false gap
    ∙ ap Some (sym (now-files last)))
