use Rattle.std.proofs.Common.{map, refl, rules, ◌≡◌}
use Rattle.events.proofs.Acting.{adds-act}
use Rattle.events.specs.PlayTexts.{bare}
use Rattle.events.proofs.reading.Draft.read.Goals as goal
use Rattle.events.proofs.reading.Draft.read.Goals.{in-End, in-Repeat, in_default-deed}

pub returns : goal.returns
returns c =
    let same : map bare c.match-deed.self.acts.items ≡ map bare c.args.self.now.acts.items =
    elim c.match-deed.branch [
      | in-Repeat w ↦ rw (w.self-is, w.open-fits.ensures) refl
      | in-End w ↦ rw w.self-is w.close-fits.ensures
      | in_default-deed w ↦ rw w.self-is refl
    ] in
    adds-act c.args.line c.args.bytes.now c.args.self.now.acts.items c.match-deed.self.acts.items c.push.new.self.items
    c.in-Some.deed same (search rules) (rw c.in-Some.is at c.in_ok-name.ensures)
