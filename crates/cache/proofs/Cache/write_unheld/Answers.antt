use Rattle.std.proofs.Common.{◌∙◌, arith, refl}
use Rattle.cache.proofs.Using.{goes-after, goes-stays, step-done, step-failed, step-last, goes-seen, last-seen}
use Rattle.cache.proofs.Using.{blocks-are, got-mut, hit-held, hit-shows, low-shown, refused-shows}
use Rattle.cache.proofs.Overlays.{AreKept-tried, unheld-as}
use Rattle.cache.proofs.Cache.write_unheld.Goals as goal

pub invariant_of-self : goal.invariant_of-self
invariant_of-self g c =
    hit-held c.self.inside.held _ _ c.args.self.now.blocks _ _ _ c.args.at c.args.bytes.now c.self.invariant
    (blocks-are c.self.view_is ∙ c.in_ok-block.ensures.done.same) c.requires.block
    (got-mut c.self.inside.held.entries c.args.n c.get_mut.ensures.value c.in-Some.is) c.change.ensures c.requires.fits

pub write_now-requires : goal.write_now-requires
write_now-requires g c =
    low-shown c.self.inside.held.entries _ (blocks-are c.self.view_is ∙ c.in_ok-block.ensures.done.same)
    c.requires.block

pub invariant_of-self-2 : goal.invariant_of-self-2
invariant_of-self-2 g c =
    AreKept-tried c.self.inside.held.entries _ _ _ _ c.args.n _ _
    (unheld-as c.self.inside.held.entries c.args.n _
    (got-mut c.self.inside.held.entries c.args.n c.get_mut.ensures.value c.in_default.is))
    c.self.invariant c.write_now.ensures.count c.write_now.ensures.written c.write_now.ensures.kept
    c.write_now.ensures.doubt

-- ---- ends

pub returns-in_err-block : goal.returns-in_err-block
returns-in_err-block g c = step-failed goes-stays c.read.ensures c.in_err-block.was c.from_residual.ensures.1

pub returns-in-Some : goal.returns-in-Some
returns-in-Some g c =
    step-done (goes-after c.read.ensures.goes
    (goes-seen g.D.BlockDev.content g.D.BlockDev.failures _ _ _ c.self.view_is _ _ refl refl (omega arith)))
    (hit-shows c.self.inside.held _ c.self.inside.in_doubt c.args.self.now.blocks _ _ _ c.args.at c.args.bytes.now
    (blocks-are c.self.view_is ∙ c.in_ok-block.ensures.done.same) c.requires.block
    (got-mut c.self.inside.held.entries c.args.n c.get_mut.ensures.value c.in-Some.is) c.change.ensures)

pub returns : goal.returns
returns g c =
    step-last c.read.ensures.goes (λ _ did. did)
    (last-seen g.D.BlockDev.content g.D.BlockDev.failures _ _ _ c.self.view_is _ _ c.write_now.ensures.count
    c.write_now.ensures.identity c.write_now.result (omega arith) c.write_now.ensures.cause
    (refused-shows c.self.inside.held _ c.args.self.now.blocks c.args.n c.args.at _ _ c.args.bytes.now _
    (blocks-are c.self.view_is ∙ c.in_ok-block.ensures.done.same) c.requires.block
    (got-mut c.self.inside.held.entries c.args.n c.get_mut.ensures.value c.in_default.is) _ c.write_now.result
    c.in_ok-block.ensures.done.told c.copy_from_slice.ensures.after (omega arith) c.write_now.ensures.written))
