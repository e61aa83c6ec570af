use Rattle.cache.proofs.Common.{ap, arith, ◌∙◌, length, refl, block_at, part}
use Rattle.cache.proofs.Using.{read-done, step-last, goes-seen, blocks-are, hit, hit-is, parted, used}
use Rattle.cache.proofs.Cache.read_older.Goals as goal

pub invariant_of-self : goal.invariant_of-self
invariant_of-self g c = (used c.self.inside.held c.get.follows.holds-at-none c.self.invariant
    (blocks-are c.self.view_is) c.requires.block).held

pub invariant_of-self-2 : goal.invariant_of-self-2
invariant_of-self-2 g c =
    (used c.self.inside.held c.get.follows.holds-at-none c.self.invariant (blocks-are c.self.view_is)
    c.requires.block).held

pub read_unheld-requires-clause-block : goal.read_unheld-requires-clause-block
read_unheld-requires-clause-block g c =
    omega (
      arith,
      ap length (used c.self.inside.held c.get.follows.holds-at-none c.self.invariant
          (blocks-are c.self.view_is) c.requires.block).shows,
      c.requires.block,
    )

-- ---- ends

pub returns-in-Some : goal.returns-in-Some
returns-in-Some g c =
    read-done (goes-seen g.D.BlockDev.content g.D.BlockDev.failures _ _ _ c.self.view_is _ _ refl refl (omega arith))
    (used c.self.inside.held c.get.follows.holds-at-none c.self.invariant (blocks-are c.self.view_is)
    c.requires.block).shows
    (parted c.args.at (length c.args.out.now) _ _ _ c.copy_from_slice.ensures.after
    (hit c.self.inside.held _ _ _ _ (blocks-are c.self.view_is) c.requires.block
    (hit-is c.self.inside.held.entries _ _ c.args.n c.get.ensures.value c.in-Some.is)))

pub returns : goal.returns
returns g c =
    let shows = (used c.self.inside.held c.get.follows.holds-at-none c.self.invariant (blocks-are c.self.view_is)
    c.requires.block).shows in
    step-last (goes-seen g.D.BlockDev.content g.D.BlockDev.failures _ _ _ c.self.view_is _ _ refl refl (omega arith))
    (λ _ did. record {
      told = did.told
          ∙ ap (λ blocks. part c.args.at (length c.args.out.now) (block_at blocks c.args.n)) shows;
      same = did.same
          ∙ shows;
    })
    c.read_unheld.ensures
