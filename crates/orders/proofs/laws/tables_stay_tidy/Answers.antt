use Rattle.orders.proofs.TidyRuns.{stays-tidy}
use Rattle.orders.proofs.laws.tables_stay_tidy.Goals as goal

pub returns : goal.returns
returns c = stays-tidy
