use Rattle.migrate.proofs.Common.{arith, sym, ◌∙◌, HasPlace-at, held-none, length-held, told_err}
use Rattle.layout.proofs.KindLemmas.{read-free}
use Rattle.imagerules.proofs.Nodes.{kind-node}
use Rattle.migrate.proofs.Emptied.{fresh-as, in-files, refused-lacks, taken-some, written-copies}
use Rattle.migrate.proofs.copy.copy_node.Goals as goal

pub kind-requires : goal.kind-requires
kind-requires g c = HasPlace-at c.requires.geometry c.args.n c.requires.high

pub links-requires : goal.links-requires
links-requires g c = HasPlace-at c.requires.geometry c.args.n c.requires.high

pub take_at-requires : goal.take_at-requires
take_at-requires g c =
    let able = c.requires.able in
    let high = in-files able.1 _ c.requires.high in
    record {
      up = able.1.up;
      low = c.requires.low;
      high = omega (arith, high, length-held able.1.stores);
      free = held-none able.1.stores c.args.n high able.2;
    }

pub returns-in_err-take_at : goal.returns-in_err-take_at
returns-in_err-take_at g c =
    λ now node copies none stands. rw (told_err c.from_residual.result c.from_residual.ensures.1) tt

pub returns-in_err-read_contents : goal.returns-in_err-read_contents
returns-in_err-read_contents g c =
    λ now node copies none stands. rw
    (told_err c.from_residual-in_err-read_contents.result c.from_residual-in_err-read_contents.ensures.1) tt

pub write_at-requires : goal.write_at-requires
write_at-requires g c =
    let able = c.requires.able in
    record {
      up = c.in_ok-take_at.ensures.failed;
      node = taken-some able.1 _ (in-files able.1 _ c.requires.high) c.kind.result c.links.result
          (λ free. c.requires.used ((read-free _ _ _).0 (sym c.kind.ensures ∙ free))) c.in_ok-take_at.ensures.done;
    }

pub returns-in_err-write_at : goal.returns-in_err-write_at
returns-in_err-write_at g c = λ now node copies none stands.
    let taken = fresh-as node (c.kind.ensures ∙ kind-node node stands.is) (c.links.ensures ∙ stands.is.links)
    c.in_ok-take_at.ensures.done in
    let bytes = c.deref.ensures.value ∙ c.in_ok-read_contents.ensures ∙ stands.is.contents in
    rw (told_err c.from_residual-in_err-write_at.result c.from_residual-in_err-write_at.ensures.1)
    (refused-lacks copies _ (in-files copies _ c.requires.high) none node c.in_ok-take_at.ensures.follows.geometry
    taken stands bytes c.in_err-write_at.ensures)

pub returns : goal.returns
returns g c = λ now node copies none stands.
    let taken = fresh-as node (c.kind.ensures ∙ kind-node node stands.is) (c.links.ensures ∙ stands.is.links)
    c.in_ok-take_at.ensures.done in
    let bytes = c.deref.ensures.value ∙ c.in_ok-read_contents.ensures ∙ stands.is.contents in
    written-copies copies _ (in-files copies _ c.requires.high) none node c.in_ok-take_at.ensures.follows.geometry
    taken stands bytes c.in_ok-write_at.ensures
