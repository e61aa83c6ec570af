use Rattle.imagecheck.proofs.Common.{◌≡◌, length, ◌∙◌, arith, take_at, All-replicate, inodes-least, refl}
use Rattle.imagecheck.proofs.Collecting.{HasParents-from, namings-fitting, numbers-within}
use Rattle.imagecheck.proofs.Sounding.{err-told}
use Rattle.imagecheck.proofs.files.test_fronts.Goals as goal

pub returns-in_err-parents : goal.returns-in_err-parents
returns-in_err-parents g c = rw (err-told c.from_residual.ensures.1) tt

pub find_parents-requires : goal.find_parents-requires
find_parents-requires g c =
    let long : length c.deref_mut.result.now ≡ c.args.geometry.inodes = c.deref_mut.ensures.len
    ∙ c.in_ok-parents.ensures.len in
    let least = inodes-least c.requires.listed.geometry in
    record {
      root = omega arith;
      within = numbers-within c.requires.listed (length c.deref_mut.result.now) long;
      some = λ k d l. (namings-fitting c.requires.listed k d l).low;
      fresh = rw (c.deref_mut.ensures.value, c.in_ok-parents.ensures.items_if_clones_equal (λ y e. cc))
          (All-replicate (λ x. x ≡ 0) c.args.geometry.inodes 0 refl);
    }

pub test_entries-requires-clause-parents : goal.test_entries-requires-clause-parents
test_entries-requires-clause-parents g c =
    let parents = c.find_parents.new.parents in
    rw (
      c.deref.ensures.value,
      take_at parents _ c.in_ok-parents.parents.len (c.find_parents.ensures.long ∙ c.deref_mut.ensures.len),
    )
    (HasParents-from c.requires.listed parents c.find_parents.ensures.found)
