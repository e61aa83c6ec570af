-- The result of a pass, from the result of the pass before it.
use Rattle.imagecheck.proofs.Common.{Err, List, length, ℕ, ◌≡◌, ◌≤◌, ap, arith, subst, ◌∙◌, IfErr, MatchResult}
use Rattle.imagecheck.proofs.Common.{DenotesIn, named_blocks, numbers_in_use, Denies, DenotesOwn, Finds, IsOutside}
use Rattle.imagecheck.proofs.Common.{Tells, HasMagic, IsSummary, err_from_is_err_and, Format, ◌≢◌, cond, ◌==◌, sym}
use Rattle.imagecheck.proofs.Common.{format_named, large, small, format_of, IsFront, image_of, SuperRules-of, Begins}
use Rattle.imagecheck.proofs.Common.{◌/◌, slice_range}
use Rattle.unixmodel.specs.Failures.{Rises}
use Rattle.imagecheck.specs.declared.ImageFault.{ImageFault}
use Rattle.imagecheck.specs.declared.rules.Summary.{Summary}
use Rattle.imagecheck.specs.declared.ImageFault.TheVariants.{Device, Length, Magic, Numbers}
use Rattle.imagecheck.specs.declared.ImageFault.TheVariants as fault
use Rattle.blockdev.specs.Blocks.{block_at, blocks_of}
use Rattle.layout.specs.Super.{HasNumbersIn, super_of}
use Rattle.layout.specs.declared.Format as layout
use Rattle.layout.specs.declared.Format.TheVariants as kinds
use Rattle.layout.specs.declared.SuperBlock.{SuperBlock}
use Rattle.blockdev.specs.Sizes.{AreBlocks-blocks_of, block_at-blocks_of, length-blocks_of}
use Rattle.std.proofs.Common.{IfOk, IsErrAnd, IsErrOf, Ok, OnOk, Result}
use Rattle.imagerules.proofs.Denoting.{HasEntries-denotes, HasKinds-denotes, HasLinks-denotes, HasSizes-denotes}
use Rattle.imagerules.proofs.Denoting.{IsReached-denotes}
use Rattle.imagerules.proofs.Super.{HasLength-from, HasLength-not, HasNumbers-in, HasSuper-in, inodes-is, magic-is}
use Rattle.imagerules.proofs.Super.{size-is}

-- a fault that holds rules out that the image denotes files
pub Tells-not : (f : Format) (image : List ℕ) (fault : ImageFault) → Tells f image fault
    → Denies (DenotesIn f image) fault
Tells-not f image fault.Length t i files d =
    t (record { least = let l = d.super.size_least in let w = d.super.whole in omega arith; whole = d.super.whole })
Tells-not f image fault.Magic t i files d = t.1 d.magic
Tells-not f image fault.Numbers t i files d = t.2 d.super
Tells-not f image fault.NodeType t i files d = t.1.1 (HasKinds-denotes image files d)
Tells-not f image fault.Size t i files d = t.1.2 (HasSizes-denotes image files d)
Tells-not f image fault.Address t i files d = t.1.1 (record { blocks = d.blocks; spares = d.spares })
Tells-not f image fault.SharedBlock t i files d = t.1.2 d.once
Tells-not f image fault.Bitmap t i files d = t.1.3 d.bitmap
Tells-not f image fault.Entry t i files d = t.1.1 (HasEntries-denotes image files d)
Tells-not f image fault.Links t i files d = t.1.2 (HasLinks-denotes image files d)
Tells-not f image fault.Unreached t i files d = t.1.3 (IsReached-denotes image files d)
Tells-not f image fault.Device t i files d = i
Tells-not f image fault.NoMemory t i files d = i

-- a fault is returned
pub told-err : {T E : Type 0} {fault : E} (r : Result T E) → IsErrAnd r (λ f. f ≡ fault) → r ≡ Err fault
told-err r told = let p = err_from_is_err_and r told in p.1 ∙ ap Err p.2

pub err-told : {T E : Type 0} {fault : E} {r : Result T E} → IsErrAnd r (λ f. f ≡ fault) → r ≡ Err fault
err-told {r = r} told = told-err r told

-- it is the only one
pub one-fault : {T E : Type 0} {r : Result T E} {x y : E} → r ≡ Err x → r ≡ Err y → x ≡ y
one-fault p q = cc

pub not_device : fault.NoMemory ≡ fault.Device → ⊥
not_device e = cc

-- what a pass over an image finds is the fault of the image, and never the device's
pub Finds-told : (f : Format) (image : List ℕ) → HasMagic f image → (fault : ImageFault) → Finds image fault
    → Tells f image fault
Finds-told f image m fault.Length h = absurd h
Finds-told f image m fault.Magic h = absurd h
Finds-told f image m fault.Numbers h = absurd h
Finds-told f image m fault.Device h = absurd h
Finds-told f image m fault.NoMemory h = tt
Finds-told f image m fault h = (m, h)

-- a fault of the device or of memory says nothing of the image
pub outside-told : (f : Format) (image : List ℕ) (fault : ImageFault) → IsOutside fault → Tells f image fault
outside-told f image fault.Device h = tt
outside-told f image fault.NoMemory h = tt
outside-told f image fault h = absurd h

-- what the check of an image in memory returns
pub record IsJudged (f : Format) (image : List ℕ) (r : Result Summary ImageFault) : Type 0 where
  pub denotes : OnOk r (DenotesOwn f image)
  pub inodes : IfOk r (λ summary. summary.inodes ≡ length (numbers_in_use image))
  pub blocks : IfOk r (λ summary. summary.blocks ≡ length (named_blocks image))
  pub fault : IfErr r (Tells f image)
  pub refused : IfErr r (Denies (DenotesIn f image))
  pub device : IsErrOf r Device → ⊥

pub judged-from : (f : Format) (image : List ℕ) → HasMagic f image → (r : Result Summary ImageFault)
    → MatchResult r (IsSummary image) (Finds image) → IsJudged f image r
judged-from f image m (Ok summary) h =
    record {
      denotes = h.denotes f m;
      inodes = h.inodes;
      blocks = h.blocks;
      fault = tt;
      refused = tt;
      device = λ told. cc;
    }
judged-from f image m (Err fault) h =
    let told = Finds-told f image m fault h in
    record {
      denotes = tt;
      inodes = tt;
      blocks = tt;
      fault = told;
      refused = Tells-not f image fault told;
      device = λ is. subst (λ x. IfErr x (Finds image)) is h;
    }

-- a rise from a later count is one from an earlier
pub Rises-before : (a b c : ℕ) → a ≤ b → Rises b c → Rises a c
Rises-before a b c h r = omega arith

-- ---- what the super block says of a device with that many blocks

-- the magic number determines the format of an image
pub format_of-magic : (format : layout.Format) (image : List ℕ) → HasMagic (format_named format) image
    → format_of image ≡ format_named format
format_of-magic kinds.Small image m = ap (λ k. cond (k == large.magic) large small) m
format_of-magic kinds.Large image m = ap (λ k. cond (k == large.magic) large small) m

module _ {blocks : List (List ℕ)} {count : ℕ} {block : List ℕ} (front : IsFront blocks count block) (least : 2 ≤ count)
    {s : SuperBlock} (read : s ≡ super_of block) where
  two : 2 ≤ length blocks
  two = omega (arith, front.many)

  e : s ≡ super_of (block_at blocks 1)
  e = read ∙ ap super_of front.front

  pub Length-told : (f : Format) → s.size ≢ count → Tells f (image_of blocks) Length
  Length-told f n = HasLength-not blocks front.sizes two s e (λ z. n (z ∙ sym front.many))

  module _ (format : layout.Format) (size : s.size ≡ count) where
    magic_told : s.magic ≡ (format_named format).magic → HasMagic (format_named format) (image_of blocks)
    magic_told m = sym (magic-is blocks front.sizes two s e) ∙ m

    most_is : s.magic ≡ (format_named format).magic → (format_of (image_of blocks)).most ≡ (format_named format).most
    most_is m = ap (λ (f : Format). f.most) (format_of-magic format (image_of blocks) (magic_told m))

    pub Begins-from : s.magic ≡ (format_named format).magic → HasNumbersIn (format_named format) s
        → Begins (format_named format) (image_of blocks) (record { size = count; inodes = s.inodes })
    Begins-from magic numbers = record {
      magic = magic_told magic;
      geometry = record {
        rules = SuperRules-of (HasSuper-in blocks front.sizes two s e (format_named format) (size ∙ front.many)
            (most_is magic) numbers);
        size = sym size ∙ size-is blocks front.sizes two s e;
        inodes = inodes-is blocks front.sizes two s e;
      };
    }

    pub Magic-told : s.magic ≢ (format_named format).magic → Tells (format_named format) (image_of blocks) Magic
    Magic-told n = (
      HasLength-from blocks front.sizes two s e (size ∙ front.many),
      λ m. n (magic-is blocks front.sizes two s e ∙ m),
    )

    pub Numbers-told : s.magic ≡ (format_named format).magic → (HasNumbersIn (format_named format) s → ⊥)
        → Tells (format_named format) (image_of blocks) Numbers
    Numbers-told magic n = (
      HasLength-from blocks front.sizes two s e (size ∙ front.many),
      magic_told magic,
      λ h. n (HasNumbers-in blocks front.sizes two s e (format_named format) (most_is magic) h),
    )

-- ---- the super block of whole blocks in memory

pub IsFront-memory : (bytes block : List ℕ) → 2 ≤ length bytes / 1024 → block ≡ slice_range bytes 1024 2048
    → IsFront (blocks_of bytes) (length bytes / 1024) block
IsFront-memory bytes block two e = record {
  sizes = AreBlocks-blocks_of bytes;
  many = sym (length-blocks_of bytes);
  front = e ∙ sym (block_at-blocks_of bytes 1 (omega arith));
}
