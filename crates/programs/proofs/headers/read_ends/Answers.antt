use Rattle.programs.proofs.Common.{ap, sym, ◌*◌, ◌+◌, ◌∙◌, is_within}
use Rattle.programs.proofs.Headings.{all-loaded, loaded-more, none-loaded, refused-more}
use Rattle.programs.proofs.headers.read_ends.Goals as goal

pub loop-i-init : goal.loop-i-init
loop-i-init g c = none-loaded c.args.tree.now _ _ _ c.requires.up

pub returns-in_default : goal.returns-in_default
returns-in_default g c =
    refused-more c.args.number c.loop-i.invariant c.loop-i-test.true
    (ap (λ i. c.args.header.program_headers + 56 * i) c.from.ensures)
    (ap (is_within c.args.header.program_headers (56 * c.args.header.count)) (sym c.requires.long) ∙ c.requires.within)
    c.in_ok-next.ensures c.in_default.is

pub loop-i-preserved : goal.loop-i-preserved
loop-i-preserved g c =
    loaded-more c.args.number c.loop-i.invariant c.loop-i-test.true
    (ap (λ i. c.args.header.program_headers + 56 * i) c.from.ensures)
    (ap (is_within c.args.header.program_headers (56 * c.args.header.count)) (sym c.requires.long) ∙ c.requires.within)
    c.in_ok-next.ensures c.in-Some.next c.in-Some.is

pub returns : goal.returns
returns g c = all-loaded c.loop-i.invariant c.loop-i-test.false
