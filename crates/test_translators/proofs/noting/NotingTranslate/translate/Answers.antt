use Rattle.std.proofs.Common.{◌≡◌, ◌/◌, ◌<◌, length, arith}
use Rattle.unixmodel.specs.Translation.{Translation}
use Rattle.test_translators.proofs.noting.NotingTranslate.translate.Goals as goal

pub returns-in-Some-clause-inside : goal.returns-in-Some-clause-inside
returns-in-Some-clause-inside c =
    let t : Translation = record
    { root = c.args.root.0; page = c.args.va / 4096; access = c.args.access; frame = c.in-Some.frame.0 } in
    let inside : c.in-Some.frame.0 < length c.args.ram.now = c.requires t c.in-Some.ensures in
    let same : c.from.result ≡ c.in-Some.frame.0 = c.from.ensures in
    (omega arith, omega arith)
