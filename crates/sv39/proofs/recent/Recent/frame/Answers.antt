use Rattle.sv39.specs.Walk.{numbered}
use Rattle.sv39.proofs.Recalled.{asked-below, remembered}
use Rattle.sv39.proofs.recent.Recent.frame.Goals as goal

pub returns-in-Some : goal.returns-in-Some
returns-in-Some g c =
    remembered g.T.Translate.held c.args.ram.now c.args.root.0 c.args.va c.args.access c.args.self.now
    c.in-Some.frame.0 c.requires c.in-Some.ensures.found

pub returns : goal.returns
returns g c =
    asked-below g.T.Translate.held c.args.ram.now c.args.root.0 c.args.va c.args.access (numbered c.ask.result)
    c.in_default.ensures.none c.ask.ensures
