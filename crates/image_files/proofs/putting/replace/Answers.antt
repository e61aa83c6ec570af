use Rattle.std.proofs.Common.{◌≡◌, ◌∙◌, length, rules, tests}
use Rattle.image_files.proofs.Replacing.{file-mid, puts}
use Rattle.image_files.proofs.putting.replace.Goals as goal

pub write-requires-clause-file : goal.write-requires-clause-file
write-requires-clause-file g c = file-mid c.requires.rests c.args.number c.requires.file c.in_ok-truncate.ensures.told

pub returns-in-Some : goal.returns-in-Some
returns-in-Some g c =
    let whole : c.in-Some.count ≡ length c.args.bytes.now = search (rules, tests) in
    let told = c.in_ok-count.ensures.told in
    let both = puts c.requires.rests c.args.number c.requires.file c.in_ok-truncate.ensures.told c.args.bytes.now
    told.0 c.in_ok-count.field-0 told.1 c.in-Some.count c.in-Some.is whole in
    record {
      put = both.0;
      rests = both.1;
      device = c.in_ok-count.ensures.same_device ∙ c.in_ok-truncate.ensures.same_device;
    }
