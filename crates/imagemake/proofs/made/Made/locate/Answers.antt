use Rattle.imagemake.proofs.Common.{ap, drop, sym, take, ◌+◌, ◌∙◌, take_rest, reach}
use Rattle.imagemake.proofs.MadePaths.{above-next, joined-next, leads-next, reach-below}
use Rattle.imagemake.proofs.Pathing.{pieces_first, reach_last, reach_none}
use Rattle.imagemake.proofs.made.Made.locate.Goals as goal

pub returns-in_default-find-clause-none : goal.returns-in_default-find-clause-none
returns-in_default-find-clause-none c =
    let made = c.args.self.now.items in
    let spot = c.name.spot in
    let none = reach_none made spot.directory (take c.in-Some.end spot.below.now)
    (drop (c.in-Some.end + 1) spot.below.now) (sym c.in_default-find.ensures) in (
      none.0,
      reach-below c.name.invariant.leads _ _ c.name.invariant.joined
          ∙ ap (reach made spot.directory) (pieces_first spot.below.now c.in-Some.end (sym c.in-Some.ensures)) ∙ none.1,
    )

pub name-preserved : goal.name-preserved
name-preserved c =
    let path = c.args.path.now in
    let spot = c.name.spot in
    let end = c.in-Some.end in
    let is = c.name.invariant.joined in
    let slash = sym c.in-Some.ensures in
    let above = above-next path _ _ end is slash in
    record {
      joined = joined-next path spot.above.now spot.below.now end is slash above (take_rest spot.below.now (end + 1));
      leads = leads-next path spot.above.now spot.below.now end is slash above c.name.invariant.leads
          (sym c.in-Some-find.ensures);
    }

pub returns-clause-found : goal.returns-clause-found
returns-clause-found c =
    reach-below c.name.invariant.leads _ _ c.name.invariant.joined
    ∙ reach_last _ _ _ (sym c.in_default.ensures)
