use Rattle.imagecheck.proofs.Common.{◌≡◌, ap, length, refl, ◌∙◌, sym, take_at, All-replicate}
use Rattle.imagecheck.proofs.Collecting.{TellsSubdirectories-from, namings-fitting}
use Rattle.imagecheck.proofs.Sounding.{err-told}
use Rattle.imagecheck.proofs.files.test_subdirectories.Goals as goal

pub returns-in_err-subdirectories : goal.returns-in_err-subdirectories
returns-in_err-subdirectories g c = rw (err-told c.from_residual.ensures.1) tt

pub count_subdirectories-requires : goal.count_subdirectories-requires
count_subdirectories-requires g c = record {
  geometry = c.requires.listed.geometry;
  namings = namings-fitting c.requires.listed;
  long = c.deref_mut.ensures.len ∙ c.in_ok-subdirectories.ensures.len;
  fresh = rw (c.deref_mut.ensures.value, c.in_ok-subdirectories.ensures.items_if_clones_equal (λ y e. cc))
      (All-replicate (λ x. x ≡ 0) _ 0 refl);
}

pub test_links-requires-clause-counts : goal.test_links-requires-clause-counts
test_links-requires-clause-counts g c =
    let counts = c.count_subdirectories.new.counts in
    let all : c.deref.result.now ≡ counts = c.deref.ensures.value
    ∙ take_at counts _ c.in_ok-subdirectories.subdirectories.len
    (c.count_subdirectories.ensures.long ∙ sym c.in_ok-subdirectories.ensures.len) in
    record {
      names_long = c.requires.long;
      names = c.requires.counts;
      subdirectories_long = ap length all ∙ c.count_subdirectories.ensures.long;
      subdirectories = rw all
          (TellsSubdirectories-from c.requires.listed counts c.count_subdirectories.ensures.long
          c.count_subdirectories.ensures.counted);
    }
