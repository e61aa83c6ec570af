use Rattle.std.proofs.lemmas.Result.{MatchResult-weaker}
use Rattle.imagecheck.proofs.files.test_files.Goals as goal

pub returns : goal.returns
returns g c =
    MatchResult-weaker c.test_reach.result c.test_reach.ensures
    (λ _ h. record {
      entries = c.in_ok-test_namings.ensures.0;
      links = c.in_ok-test_namings.ensures.1;
      reached = h;
    }) (λ _ h. h)
