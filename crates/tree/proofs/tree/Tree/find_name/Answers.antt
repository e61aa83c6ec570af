use Rattle.tree.proofs.Ending.{end-last}
use Rattle.tree.proofs.Following.{end-lost, folder-now, folder-was, now-begin, now-read, now-up}
use Rattle.tree.proofs.tree.Tree.find_name.Goals as goal

pub returns-in_err-count : goal.returns-in_err-count
returns-in_err-count g c = end-lost now-begin c.count_places.ensures c.in_err-count.was c.from_residual.ensures.1

pub find_among-requires : goal.find_among-requires
find_among-requires g c =
    let now = now-read now-begin c.count_places.ensures c.in_ok-count.was in
    record {
      up = now-up now c.requires.up;
      directory = folder-now now c.requires.directory;
      count = λ f. c.in_ok-count.ensures.serves.told.1 (folder-was now f);
    }

pub returns : goal.returns
returns g c =
    let now = now-read now-begin c.count_places.ensures c.in_ok-count.was in
    end-last now _ c.find_among.ensures (λ found told f. told (folder-now now f))
