use Rattle.tree.proofs.Common.{[], Some, ap, arith, refl, suc, sym, ◌∙◌, ◌≡◌, ◌≤◌, None, ◌+◌, ◌<◌, ◌≢◌, blocks_of}
use Rattle.tree.proofs.Common.{change_node, links_of, most_links, put, slot, Node, Directory, more_links, new_directory}
use Rattle.layout.specs.declared.Kind.TheVariants as kind
use Rattle.tree.proofs.Directories.{above-asked, first-above, first-bare, first-block, folder-is, folder-many}
use Rattle.tree.proofs.Directories.{folder-unnumbered, name-asked, next-is, weaker-folder}
use Rattle.tree.proofs.Ending.{acts-done, acts-lost, acts-not, acts-refused, at-now, now-changed, now-kept, now-none}
use Rattle.tree.proofs.Ending.{now-took}
use Rattle.tree.proofs.Following.{now-begin, now-files, now-node, now-read, now-up, now-wanted, told-now}
use Rattle.tree.proofs.NewFiles.{overflow-none}
use Rattle.tree.specs.Calls.{filled}
use Rattle.tree.proofs.tree.Tree.create_directory.Goals as goal

pub returns-in_err-gap : goal.returns-in_err-gap
returns-in_err-gap g c =
    acts-refused now-begin c.find_gap.ensures c.in_err-gap.was
    (λ known less. weaker-folder _ _ _ _ _ known) c.from_residual.ensures.1

-- after the search for a slot
pub node-requires : goal.node-requires
node-requires g c =
    let now = now-kept now-begin c.find_gap.ensures c.requires.up c.in_ok-gap.was in
    record {
      up = now-up now c.requires.up;
      node = now-node now _ (
        Directory (suc c.in_ok-gap.ensures.done.0.links) c.in_ok-gap.ensures.done.0.places,
        c.in_ok-gap.ensures.done.0.here,
      );
    }

pub returns-in_err-above : goal.returns-in_err-above
returns-in_err-above g c =
    acts-lost (now-kept now-begin c.find_gap.ensures c.requires.up c.in_ok-gap.was) c.node.ensures c.in_err-above.was
    c.from_residual-in_err-above.ensures.1

pub returns-then-above-ge-MOST_LINKS : goal.returns-then-above-ge-MOST_LINKS
returns-then-above-ge-MOST_LINKS g c =
    let gap = c.in_ok-gap.ensures.done.0 in
    let now = now-kept now-begin c.find_gap.ensures c.requires.up c.in_ok-gap.was in
    let parent = Directory (suc gap.links) gap.places in
    let links = (told-now now _ c.in_ok-above.ensures.serves.told.1 parent gap.here).1 in
    let many = c.if-above-ge-MOST_LINKS.true in
    let all : most_links ≤ suc gap.links = omega arith in
    acts-not c.requires.up (now-read now c.node.ensures c.in_ok-above.was) refl
    (overflow-none _ (folder-many _ _ _ _ gap.spot parent gap.here all))
    (record { at = _; spot = gap.spot; is = record { node = parent; here = gap.here; many = all } })

-- after the look at the directory above
pub take_node-requires : goal.take_node-requires
take_node-requires g c =
    let now = now-read (now-kept now-begin c.find_gap.ensures c.requires.up c.in_ok-gap.was) c.node.ensures
    c.in_ok-above.was in
    record { up = now-up now c.requires.up }

pub returns-in_err-number : goal.returns-in_err-number
returns-in_err-number g c =
    acts-lost (now-read (now-kept now-begin c.find_gap.ensures c.requires.up c.in_ok-gap.was) c.node.ensures
    c.in_ok-above.was) c.take_node.ensures c.in_err-number.was c.from_residual-in_err-number.ensures.1

pub returns-in_default : goal.returns-in_default
returns-in_default g c =
    let gap = c.in_ok-gap.ensures.done.0 in
    let none = now-none (now-read (now-kept now-begin c.find_gap.ensures c.requires.up c.in_ok-gap.was) c.node.ensures
    c.in_ok-above.was) kind.Directory c.take_node.ensures c.in_ok-number.was c.in_default.is in
    acts-not c.requires.up none.1 refl
    (overflow-none _ (folder-unnumbered _ _ _ _ gap.spot _ gap.here none.0)) none.0

-- after the new node
pub put_dots-requires : goal.put_dots-requires
put_dots-requires g c =
    let took = now-took (now-read (now-kept now-begin c.find_gap.ensures c.requires.up c.in_ok-gap.was) c.node.ensures
    c.in_ok-above.was) kind.Directory c.take_node.ensures c.in_ok-number.was c.in-Some.is in
    record {
      up = now-up took.1 c.requires.up;
      bare = at-now took.1 (λ t. slot t.files c.in-Some.number ≡ Some (Directory 1 []))
          (first-bare c.args.self.now c.in_ok-gap.ensures.done.0 took.0);
      above = at-now took.1 (λ t. slot t.files c.in_ok-gap.gap.directory ≢ None)
          (first-above c.args.self.now c.in_ok-gap.ensures.done.0 took.0);
      block = at-now took.1 (λ t. blocks_of t.files + 1 ≤ t.block_limit)
          (first-block c.args.self.now c.in_ok-gap.ensures.done.0 took.0);
    }

pub returns-in_err-put_dots : goal.returns-in_err-put_dots
returns-in_err-put_dots g c =
    let took = now-took (now-read (now-kept now-begin c.find_gap.ensures c.requires.up c.in_ok-gap.was) c.node.ensures
    c.in_ok-above.was) kind.Directory c.take_node.ensures c.in_ok-number.was c.in-Some.is in
    acts-lost took.1 c.put_dots.ensures c.in_err-put_dots.was c.from_residual-in_err-put_dots.ensures.1

-- after its own entries
pub put_entry-requires : goal.put_entry-requires
put_entry-requires g c =
    let took = now-took (now-read (now-kept now-begin c.find_gap.ensures c.requires.up c.in_ok-gap.was) c.node.ensures
    c.in_ok-above.was) kind.Directory c.take_node.ensures c.in_ok-number.was c.in-Some.is in
    let dots = now-wanted (now-changed took.1
    (λ fs. put fs c.in-Some.number (new_directory c.in_ok-gap.gap.directory c.in-Some.number))
    c.put_dots.ensures c.in_ok-put_dots.was) (next-is c.args.self.now c.in_ok-gap.ensures.done.0 took.0) in
    let asked = name-asked _ c.in_ok-gap.ensures.done.0 took.0 dots c.requires.path in
    record {
      up = now-up dots c.requires.up;
      plain = asked.plain;
      number = asked.node;
      room = asked.room;
      fits = asked.fits;
    }

pub returns-in_err-put_entry : goal.returns-in_err-put_entry
returns-in_err-put_entry g c =
    let took = now-took (now-read (now-kept now-begin c.find_gap.ensures c.requires.up c.in_ok-gap.was) c.node.ensures
    c.in_ok-above.was) kind.Directory c.take_node.ensures c.in_ok-number.was c.in-Some.is in
    let dots = now-changed took.1
    (λ fs. put fs c.in-Some.number (new_directory c.in_ok-gap.gap.directory c.in-Some.number))
    c.put_dots.ensures c.in_ok-put_dots.was in
    acts-lost dots c.put_entry.ensures c.in_err-put_entry.was c.from_residual-in_err-put_entry.ensures.1

-- after its name
pub add_link-requires : goal.add_link-requires
add_link-requires g c =
    let gap = c.in_ok-gap.ensures.done.0 in
    let begun = now-kept now-begin c.find_gap.ensures c.requires.up c.in_ok-gap.was in
    let took = now-took (now-read begun c.node.ensures c.in_ok-above.was) kind.Directory c.take_node.ensures
    c.in_ok-number.was c.in-Some.is in
    let dots = now-wanted (now-changed took.1
    (λ fs. put fs c.in-Some.number (new_directory c.in_ok-gap.gap.directory c.in-Some.number))
    c.put_dots.ensures c.in_ok-put_dots.was) (next-is c.args.self.now gap took.0) in
    let named = now-changed dots (λ fs. filled fs c.in_ok-gap.gap c.in-Some.number) c.put_entry.ensures
    c.in_ok-put_entry.was in
    let links = (told-now begun _ c.in_ok-above.ensures.serves.told.1 _ gap.here).1 in
    let few = c.if-above-ge-MOST_LINKS.false in
    record {
      up = now-up named c.requires.up;
      node = at-now named (λ t. (node : Node) × (slot t.files c.in_ok-gap.gap.directory ≡ Some node)
          × (links_of node < 65535)) (above-asked c.args.self.now gap took.0 (omega arith));
    }

pub returns-in_err-add_link : goal.returns-in_err-add_link
returns-in_err-add_link g c =
    let took = now-took (now-read (now-kept now-begin c.find_gap.ensures c.requires.up c.in_ok-gap.was) c.node.ensures
    c.in_ok-above.was) kind.Directory c.take_node.ensures c.in_ok-number.was c.in-Some.is in
    let dots = now-changed took.1
    (λ fs. put fs c.in-Some.number (new_directory c.in_ok-gap.gap.directory c.in-Some.number))
    c.put_dots.ensures c.in_ok-put_dots.was in
    acts-lost (now-changed dots (λ fs. filled fs c.in_ok-gap.gap c.in-Some.number) c.put_entry.ensures
    c.in_ok-put_entry.was) c.add_link.ensures c.in_err-add_link.was c.from_residual-in_err-add_link.ensures.1

pub returns : goal.returns
returns g c =
    let gap = c.in_ok-gap.ensures.done.0 in
    let begun = now-kept now-begin c.find_gap.ensures c.requires.up c.in_ok-gap.was in
    let took = now-took (now-read begun c.node.ensures c.in_ok-above.was) kind.Directory c.take_node.ensures
    c.in_ok-number.was c.in-Some.is in
    let dots = now-wanted (now-changed took.1
    (λ fs. put fs c.in-Some.number (new_directory c.in_ok-gap.gap.directory c.in-Some.number))
    c.put_dots.ensures c.in_ok-put_dots.was) (next-is c.args.self.now gap took.0) in
    let named = now-changed dots (λ fs. filled fs c.in_ok-gap.gap c.in-Some.number) c.put_entry.ensures
    c.in_ok-put_entry.was in
    let last = now-changed named (λ fs. change_node fs c.in_ok-gap.gap.directory more_links) c.add_link.ensures
    c.in_ok-add_link.was in
    let links = (told-now begun _ c.in_ok-above.ensures.serves.told.1 _ gap.here).1 in
    let few = c.if-above-ge-MOST_LINKS.false in
    acts-done c.requires.up last (folder-is c.args.self.now gap took.0 (omega arith) ∙ ap Some (sym (now-files last)))
