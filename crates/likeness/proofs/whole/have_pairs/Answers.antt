use Rattle.std.proofs.lemmas.Bool.{OnTrue_at, OnTrue_from}
use Rattle.likeness.specs.Pairing.{pairs_of}
use Rattle.likeness.proofs.whole.have_pairs.Goals as goal

pub fit_opens-requires : goal.fit_opens-requires
fit_opens-requires g c = c.fit_places.ensures.grows.paired c.none-files.ensures

pub fit_pipes-requires : goal.fit_pipes-requires
fit_pipes-requires g c = c.fit_opens.ensures.grows.paired c.none-pipes.ensures

pub returns : goal.returns
returns g c = OnTrue_from c.fit_pipes.result _ (λ agreed. record {
  files = pairs_of c.fit_places.new.files;
  pipes = pairs_of c.fit_opens.new.pipes;
  places = c.if-not-fit_places.ensures.fits;
  open_files = c.if-not-fit_opens.ensures.fits;
  held = OnTrue_at agreed c.fit_pipes.ensures;
})
