use Rattle.imagecheck.proofs.Common.{◌≡◌, refl, ◌∙◌, All-replicate, take_at}
use Rattle.imagecheck.proofs.Collecting.{TellsNames-from, numbers-within}
use Rattle.imagecheck.proofs.files.test_namings.Goals as goal

pub count_names-requires : goal.count_names-requires
count_names-requires g c = record {
  within = numbers-within c.requires _ (c.deref_mut.ensures.len ∙ c.in_ok-counts.ensures.len);
  fresh = rw (c.deref_mut.ensures.value, c.in_ok-counts.ensures.items_if_clones_equal (λ y e. cc))
      (All-replicate (λ x. x ≡ 0) _ 0 refl);
}

pub test_fronts-requires-clause-counts : goal.test_fronts-requires-clause-counts
test_fronts-requires-clause-counts g c =
    let counts = c.count_names.new.counts in
    rw (
      c.deref.ensures.value,
      take_at counts _ c.in_ok-counts.counts.len (c.count_names.ensures.long ∙ c.deref_mut.ensures.len),
    )
    (TellsNames-from c.requires counts c.count_names.ensures.counted)

pub test_subdirectories-requires-clause-counts : goal.test_subdirectories-requires-clause-counts
test_subdirectories-requires-clause-counts g c =
    let counts = c.count_names.new.counts in
    rw (
      c.deref-2.ensures.value,
      take_at counts _ c.in_ok-counts.counts.len (c.count_names.ensures.long ∙ c.deref_mut.ensures.len),
    )
    (TellsNames-from c.requires counts c.count_names.ensures.counted)
