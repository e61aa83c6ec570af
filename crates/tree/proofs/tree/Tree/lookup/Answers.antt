use Rattle.tree.proofs.Common.{ap, sym, ◌∙◌, option_map, Found}
use Rattle.tree.proofs.Following.{end-lost, folder-now, folder-was, now-begin, now-read, now-up}
use Rattle.tree.proofs.Ending.{end-read}
use Rattle.tree.proofs.Unlinked.{dead-told, live-folder, live-told, lookup-told}
use Rattle.tree.proofs.Places.{size-told}
use Rattle.tree.proofs.Storing.{node-of}
use Rattle.tree.proofs.tree.Tree.lookup.Goals as goal

pub node-requires : goal.node-requires
node-requires g c = record { up = c.requires.up; node = node-of _ c.requires.node }

pub returns-in_err-node : goal.returns-in_err-node
returns-in_err-node g c = end-lost now-begin c.node.ensures c.in_err-node.was c.from_residual.ensures.1

pub returns-then-not-is_live : goal.returns-then-not-is_live
returns-then-not-is_live g c =
    end-read c.requires.up (now-read now-begin c.node.ensures c.in_ok-node.was)
    (dead-told _ _ c.requires.node c.in_ok-node.ensures.serves.told.1 (sym c.is_live.ensures ∙ c.if-not-is_live.true) _)

pub find_among-requires : goal.find_among-requires
find_among-requires g c =
    let now = now-read now-begin c.node.ensures c.in_ok-node.was in
    let live = live-told _ _ c.requires.node c.in_ok-node.ensures.serves.told.1
    (sym c.is_live.ensures ∙ c.if-not-is_live.false) in
    record {
      up = now-up now c.requires.up;
      directory = folder-now now (live-folder live);
      count = λ f. c.places_of.ensures ∙ size-told (folder-was now f) c.in_ok-node.ensures.serves.told.1;
    }

pub returns-in_err-found : goal.returns-in_err-found
returns-in_err-found g c =
    end-lost (now-read now-begin c.node.ensures c.in_ok-node.was) c.find_among.ensures c.in_err-found.was
    c.from_residual-in_err-found.ensures.1

pub returns-in_default : goal.returns-in_default
returns-in_default g c =
    let now = now-read now-begin c.node.ensures c.in_ok-node.was in
    let live = live-told _ _ c.requires.node c.in_ok-node.ensures.serves.told.1
    (sym c.is_live.ensures ∙ c.if-not-is_live.false) in
    let told = lookup-told live _ _ (c.in_ok-found.ensures.serves.told.1 (folder-now now (live-folder live))) in
    end-read c.requires.up (now-read now c.find_among.ensures c.in_ok-found.was)
    (ap (option_map (λ (f : Found). f.number)) (sym c.in_default.is) ∙ told)

pub returns : goal.returns
returns g c =
    let now = now-read now-begin c.node.ensures c.in_ok-node.was in
    let live = live-told _ _ c.requires.node c.in_ok-node.ensures.serves.told.1
    (sym c.is_live.ensures ∙ c.if-not-is_live.false) in
    let told = lookup-told live _ _ (c.in_ok-found.ensures.serves.told.1 (folder-now now (live-folder live))) in
    end-read c.requires.up (now-read now c.find_among.ensures c.in_ok-found.was)
    (ap (option_map (λ (f : Found). f.number)) (sym c.in-Some.is) ∙ told)
