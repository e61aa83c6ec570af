-- What the steps of an entry make of the files, and whether they have room.
use Rattle.imagemake.proofs.Common.{◌≡◌, ◌≢◌, ℕ, ◌<◌, ◌≤◌, Bool, Err, List, None, Ok, Result, Some, cond, true, false}
use Rattle.imagemake.proofs.Common.{ap, sym, refl, ◌∙◌, arith, inl, inr, nat_le, option_map, unwrap_or, ◌&&◌, ◌⊎◌}
use Rattle.imagemake.proofs.Common.{IsErrAnd, le-leb, lt-leb, true≢false, get_or-set_other, get_or-set_same, length-set}
use Rattle.imagemake.proofs.Common.{length_push, none-some, slot-within, FileTree, IsNow, now-files, blocks_of-set}
use Rattle.imagemake.proofs.Common.{taken_by, Files, Node, blocks_for, longest, put, size_of, slot, Wrong, added}
use Rattle.imagemake.proofs.Common.{appended, if_room, is_short, linked, node_for, CanAdd, HasDirectory, Puts}
use Rattle.imagemake.proofs.Common.{StoreFault, blocks_of, Directory, Thing, IsWhole, taken-grows, PutsName, Stores}
use Rattle.imagemake.proofs.MadeEntry.{above, added-is, apart, entry, here, linked-directory, named}
use Rattle.imagemake.proofs.Filling.{linked-size}
use Rattle.imagemake.proofs.Putting.{Owns-after, told_err, TellsFull-weaker}

-- ---- three tests

room-no : {A : Type 0} (x y z : Bool) (a b : A) → (x ≡ false) ⊎ ((y ≡ false) ⊎ (z ≡ false)) → cond (x && y && z) a b ≡ b
room-no false y z a b h = refl
room-no true false z a b h = refl
room-no true true false a b h = refl
room-no true true true a b h =
    absurd (elim h [ inl e ↦ true≢false e | inr k ↦ elim k [ inl e ↦ true≢false e | inr e ↦ true≢false e ] ])

is-short : (files : Files) (n : ℕ) (node : Node) → slot files n ≡ Some node
    → is_short files n ≡ nat_le (size_of node) longest
is-short files n node e = ap (λ o. unwrap_or (option_map (λ (x : Node). nat_le (size_of x) longest) o) true) e

-- ---- the files

module _ (t : FileTree) {d : ℕ} {name : List ℕ} {n : ℕ} (thing : Thing) (can : CanAdd t.files d name n) where
  abbrev was : Node
  was = Directory can.links can.places

  abbrev becomes : Node
  becomes = linked thing (appended (entry thing can) was)

  abbrev one : Files
  one = put t.files n (node_for n d thing)

  abbrev all : Files
  all = added t.files d name n thing

  pub still-there : slot one d ≡ Some was
  still-there = get_or-set_other t.files n d _ None (apart thing can) ∙ can.directory

  becomes-is : becomes ≡ named thing can
  becomes-is = linked-directory thing _ _

  added-put : all ≡ put one d becomes
  added-put = added-is thing can ∙ ap (put one d) (sym becomes-is)

  added-above : slot all d ≡ Some becomes
  added-above = above thing can ∙ ap Some (sym becomes-is)

  -- ---- the room

  room-is : if_room t.block_limit d n all
      ≡ cond (nat_le (size_of (node_for n d thing)) longest && nat_le (size_of becomes) longest
      && nat_le (blocks_of (put one d becomes)) t.block_limit) (Ok all) (Err Wrong.Blocks)
  room-is = λ i. cond (is-short all n (node_for n d thing) (here thing can) i && is-short all d becomes added-above i
      && nat_le (blocks_of (added-put i)) t.block_limit) (Ok all) (Err Wrong.Blocks)

  has-room : size_of (node_for n d thing) ≤ longest → size_of becomes ≤ longest
      → blocks_of (put one d becomes) ≤ t.block_limit → if_room t.block_limit d n all ≡ Ok all
  has-room short above_short few = room-is
      ∙ rw (
        le-leb (size_of (node_for n d thing)) longest short,
        le-leb (size_of becomes) longest above_short,
        le-leb (blocks_of (put one d becomes)) t.block_limit few,
      ) refl

  lacks-room : (longest < size_of (node_for n d thing))
      ⊎ ((longest < size_of becomes) ⊎ (t.block_limit < blocks_of (put one d becomes)))
      → if_room t.block_limit d n all ≡ Err Wrong.Blocks
  lacks-room why = room-is ∙ room-no _ _ _ (Ok all) (Err Wrong.Blocks) (elim why [
    | inl long ↦ inl (lt-leb (size_of (node_for n d thing)) longest long)
    | inr rest ↦ inr (elim rest [
      | inl long ↦ inl (lt-leb (size_of becomes) longest long)
      | inr full ↦ inr
          (lt-leb (blocks_of (put one d becomes)) t.block_limit full)
    ])
  ])

  -- the blocks of the node alone are too many
  more-blocks : blocks_of one ≤ blocks_of (put one d becomes)
  more-blocks =
      let longer : size_of was ≤ size_of becomes =
      omega (
        arith,
        linked-size thing (appended (entry thing can) was),
        length_push can.places (Some (entry thing can)),
      ) in
      let used : taken_by (slot one d) ≡ blocks_for (size_of was) = ap taken_by still-there in
      let more : blocks_for (size_of was) ≤ blocks_for (size_of becomes) =
      taken-grows (size_of was) (size_of becomes) longer in
      omega (
        arith,
        blocks_of-set one d (Some becomes)
            (omega (arith, slot-within t.files d was can.directory, length-set t.files n (Some (node_for n d thing)))),
      )

  -- ---- the node, and then the name

  pub node-refused : {now : FileTree} {s : Result (Unit {0}) StoreFault} {fault : StoreFault}
      → Puts t now n (node_for n d thing) (Err fault) → IsErrAnd s (λ f. f ≡ fault) → Stores t now d name n thing s
  node-refused {s = s} {fault = fault} puts told = rw (told_err s told) (record {
    stored = TellsFull-weaker
        (λ why. lacks-room (elim why [ inl long ↦ inl long | inr full ↦ inr (inr (omega (arith, more-blocks))) ]))
        fault puts.done;
    owns = puts.owns;
  })

  module _ {mid : FileTree} (puts : Puts t mid n (node_for n d thing) (Ok tt)) where
    pub now-one : IsNow t mid one
    now-one = record { is = puts.done; later = puts.owns.later }

    abbrev pub directory-after : HasDirectory mid.files d
    directory-after = record {
      links = can.links;
      places = can.places;
      here = ap (λ (fs : Files). slot fs d) (now-files now-one)
          ∙ still-there;
      few = can.few;
      packed = can.packed;
    }

    -- its number is in use
    pub number-after : slot mid.files n ≢ None
    number-after none = none-some _
        (sym none ∙ ap (λ (fs : Files). slot fs n) (now-files now-one)
        ∙ get_or-set_same t.files n _ None can.number.high)

    module _ {now : FileTree} where
      pub name-refused : {s : Result (Unit {0}) StoreFault} {fault : StoreFault}
          → PutsName mid now d (entry thing can) thing (Err fault) → IsErrAnd s (λ f. f ≡ fault)
          → Stores t now d name n thing s
      name-refused {s} {fault} tells told =
          let last = tells directory-after in
          rw (told_err s told) (record {
            stored = TellsFull-weaker (λ why. lacks-room (inr (elim why [
              | inl long ↦ inl long
              | inr full ↦ inr (omega (
                arith,
                full,
                ap blocks_of (ap (λ (fs : Files). put fs d becomes) (now-files now-one)),
                ap (λ (t : FileTree). t.block_limit) now-one.is,
              ))
            ]))) fault last.done;
            owns = Owns-after now-one.later last.owns;
          })

      module _ (tells : PutsName mid now d (entry thing can) thing (Ok tt)) where
        named-is : now ≡ record t { files = all; failures = now.failures }
        named-is =
            (tells directory-after).done
            ∙ ap (λ (t : FileTree). record t { files = put mid.files d becomes; failures = now.failures })
            now-one.is
            ∙ ap (λ (fs : Files). record t { files = fs; failures = now.failures })
            (ap (λ (fs : Files). put fs d becomes) (now-files now-one) ∙ sym added-put)

        pub named-up : t.failed ≡ false → now.failed ≡ false
        named-up up = ap (λ (t : FileTree). t.failed) named-is ∙ up

        pub stores-named : IsWhole now → Stores t now d name n thing (Ok tt)
        stores-named whole =
            let files : now.files ≡ all = ap (λ (t : FileTree). t.files) named-is in
            record {
              stored = (
                named-is,
                has-room (whole.short n (node_for n d thing) (ap (λ (fs : Files). slot fs n) files ∙ here thing can))
                    (whole.short d becomes (ap (λ (fs : Files). slot fs d) files ∙ added-above))
                    (omega (
                      arith,
                      whole.within,
                      ap blocks_of (files ∙ added-put),
                      ap (λ (t : FileTree). t.block_limit) named-is,
                    )),
              );
              owns = Owns-after now-one.later (tells directory-after).owns;
            }
