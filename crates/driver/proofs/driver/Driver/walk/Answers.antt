use Rattle.std.proofs.Common.{ap, arith, inl, inr, refl, ◌∙◌}
use Rattle.driver.proofs.Reaching.{match-no, match-yes}
use Rattle.driver.proofs.Walking.{far-up, goes-as, goes-through, lost, some-same, walking-begins, walking-ends}
use Rattle.driver.proofs.Walking.{walking-halts, walking-more}
use Rattle.driver.proofs.driver.Driver.walk.Goals as goal

pub loop-made-init : goal.loop-made-init
loop-made-init g c = record { walking = walking-begins _ _ c.requires; rest = refl }

pub is_over-requires : goal.is_over-requires
is_over-requires g c = far-up c.loop-made.invariant.walking.far

pub ended-requires : goal.ended-requires
ended-requires g c = far-up c.loop-made.invariant.walking.far

pub ended-requires-2 : goal.ended-requires-2
ended-requires-2 g c = far-up c.loop-made.invariant.walking.far

pub go_on-more-requires-clause-up : goal.go_on-more-requires-clause-up
go_on-more-requires-clause-up g c = rw c.write_out-room.ensures.machine (far-up c.loop-made.invariant.walking.far)

pub returns-then-is_over-clause-given : goal.returns-then-is_over-clause-given
returns-then-is_over-clause-given g c =
    walking-ends c.loop-made.invariant.walking c.ended.result c.ended.ensures.made
    (inr (match-yes _ _ _ c.is_over.ensures c.if-is_over.true)) c.ended.ensures.found

pub returns-in_err-ended-clause-given : goal.returns-in_err-ended-clause-given
returns-in_err-ended-clause-given g c =
    let w = c.write_out-room.ensures in
    rw (lost _ c.from_residual.ensures.1)
    (walking-halts c.loop-made.invariant.walking w.kept w.later (match-no _ _ _ c.is_over.ensures c.if-is_over.false)
    (some-same (λ g. g.now) c.args.aim _ c.is_some.ensures) (omega arith) _
    (goes-through w.machine (ap g.R.Record.kept w.keeper) w.clock
    (goes-as c.in_err-ended.was c.go_on-more.ensures.goes)))

pub loop-made-preserved : goal.loop-made-preserved
loop-made-preserved g c =
    let w = c.write_out-room.ensures in
    record {
      walking = walking-more c.loop-made.invariant.walking w.kept w.later
          (match-no _ _ _ c.is_over.ensures c.if-is_over.false)
          (some-same (λ g. g.now) c.args.aim _ c.is_some.ensures) (omega arith) _
          (goes-through w.machine (ap g.R.Record.kept w.keeper) w.clock
          (goes-as c.in_ok-ended.was c.go_on-more.ensures.goes));
      rest = c.go_on-more.ensures.rest ∙ ap g.R.Record.rest w.keeper ∙ c.loop-made.invariant.rest;
    }

pub returns-clause-given : goal.returns-clause-given
returns-clause-given g c =
    walking-ends c.loop-made.invariant.walking c.ended-2.result c.ended-2.ensures.made
    (inl (omega (arith, c.loop-made.invariant.walking.within, c.loop-made-test.false))) c.ended-2.ensures.found

pub returns-then-is_over-clause-rest : goal.returns-then-is_over-clause-rest
returns-then-is_over-clause-rest g c = c.loop-made.invariant.rest

pub returns-in_err-ended-clause-rest : goal.returns-in_err-ended-clause-rest
returns-in_err-ended-clause-rest g c =
    c.go_on-more.ensures.rest ∙ ap g.R.Record.rest c.write_out-room.ensures.keeper ∙ c.loop-made.invariant.rest

pub returns-clause-rest : goal.returns-clause-rest
returns-clause-rest g c = c.loop-made.invariant.rest
