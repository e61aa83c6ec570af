use Rattle.session.proofs.Named.{is-open, named, no-file, no-process, not-open, shows-none}
use Rattle.session.proofs.session.Session.descriptor.Goals as goal

pub returns-in_err-holdings : goal.returns-in_err-holdings
returns-in_err-holdings c = shows-none c.args.self.now.machine c.args.pid c.args.descriptor c.from_residual.result
    c.from_residual.ensures (no-process c.args.self.now.machine c.args.pid c.args.descriptor
    c.in_err-holdings.ensures)

pub returns-in_err-file : goal.returns-in_err-file
returns-in_err-file c =
    shows-none c.args.self.now.machine c.args.pid c.args.descriptor c.from_residual-in_err-file.result
    c.from_residual-in_err-file.ensures
    (no-file c.args.self.now.machine c.args.pid c.args.descriptor c.in_ok-holdings.holdings c.in_ok-holdings.ensures
    c.in_err-file.ensures)

pub returns-in_err-found : goal.returns-in_err-found
returns-in_err-found c =
    shows-none c.args.self.now.machine c.args.pid c.args.descriptor c.from_residual-in_err-found.result
    c.from_residual-in_err-found.ensures
    (not-open c.args.self.now.machine c.args.pid c.args.descriptor c.in_ok-holdings.holdings c.in_ok-file.file
    c.from.result c.in_ok-holdings.ensures c.in_ok-file.ensures c.from.ensures c.in_err-found.ensures.file)

pub returns : goal.returns
returns c = record {
  file = c.in_ok-file.file;
  named = named c.args.self.now.machine c.args.pid c.args.descriptor c.in_ok-holdings.holdings _
      c.in_ok-holdings.ensures c.in_ok-file.ensures;
  opens =
      is-open c.args.self.now.machine c.in_ok-file.file c.from.result c.in_ok-found.found c.open_numbers.result
      c.from.ensures c.in_ok-found.ensures.file c.in_ok-found.ensures.count c.in_ok-found.ensures.kind
      c.open_numbers.ensures;
}
