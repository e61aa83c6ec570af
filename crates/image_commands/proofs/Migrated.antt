-- An image that was made of an old one is checked.
use Rattle.std.specs.Result.{IsErrAnd}
use Rattle.blockdev.specs.Blocks.{blocks_of}
use Rattle.imagecheck.specs.Faults.{IsOfImage}
use Rattle.imagecheck.specs.declared.ImageFault.{ImageFault}
use Rattle.imagecheck.specs.declared.ImageFault.TheVariants as image
use Rattle.imagerules.specs.Content.{image_of}
use Rattle.migrate.specs.declared.fault.MigrateFault.{MigrateFault}
use Rattle.std.proofs.Common.{ap, Err, length, List, refl, Result, sym, ℕ, ◌%◌, ◌∙◌, ◌≡◌}
use Rattle.std.proofs.lemmas.Result.{err_from_is_err_and}
use Rattle.imagerules.proofs.Spelling.{image_of-blocks}

-- the fault that a step passes on
pub told_fault : {T : Type 0} (r : Result T MigrateFault) (fault : MigrateFault) → IsErrAnd r (λ f. f ≡ fault)
    → r ≡ Err fault
told_fault r fault h = let p = err_from_is_err_and r h in p.1 ∙ ap Err p.2

-- a good image on a disk that never fails is refused for want of memory alone
pub only-memory : (fault : ImageFault) → (IsOfImage fault → ⊥) → (fault ≡ image.Device → ⊥) → fault ≡ image.NoMemory
only-memory image.Device none device = absurd (device refl)
only-memory image.NoMemory none device = refl
only-memory fault none device = absurd (none tt)

-- a check leaves the bytes of its disk as they are
pub disk-bytes : (new disk : List ℕ) → length new % 1024 ≡ 0 → disk ≡ new → image_of (blocks_of disk) ≡ new
disk-bytes new disk whole e = ap (λ b. image_of (blocks_of b)) e ∙ image_of-blocks new whole

pub kept-bytes : (disk after into : List ℕ) → blocks_of after ≡ blocks_of disk → into ≡ after → length into % 1024 ≡ 0
    → into ≡ image_of (blocks_of disk)
kept-bytes disk after into same e whole = sym (image_of-blocks into whole) ∙ ap (λ b. image_of (blocks_of b)) e
    ∙ ap image_of same
