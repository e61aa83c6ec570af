-- The entries of a manifest are read one by one.
use Rattle.std.proofs.Common.{ap, append-nil, arith, drop, get_or, length, List, map, None, Option, refl, Some, subst}
use Rattle.std.proofs.Common.{sym, ℕ, [], ◌++◌, ◌+◌, ◌<◌, ◌∙◌, ◌∷◌, ◌≡◌, ◌≢◌, ◌≤◌}
use Rattle.std.proofs.lemmas.List.{append_assoc, at_drop_all, at_drop_more, map_push}
use Rattle.std.specs.Borrow.{Bor}
use Rattle.std.specs.Prelude.{IfSome, option_and_then, option_map}
use Rattle.imagebytes.specs.Entries.{told_entries, told_entry}
use Rattle.imagebytes.specs.declared.entries.EntryTold.{EntryTold}
use Rattle.imagemake.specs.Making.{entry_of}
use Rattle.imagemake.specs.declared.manifest.Entry.{Entry}
use Rattle.unixmodel.specs.Manifest.{ManifestEntry}

-- these entries, and those after them
abbrev pub joined : List ManifestEntry → Option (List ManifestEntry) → Option (List ManifestEntry)
joined done more = option_map (λ (rest : List ManifestEntry). done ++ rest) more

-- an entry more
abbrev begun : ManifestEntry → Option (List ManifestEntry) → Option (List ManifestEntry)
begun m more = option_map (λ (rest : List ManifestEntry). m ∷ rest) more

joined-more : (done : List ManifestEntry) (m : ManifestEntry) (more : Option (List ManifestEntry))
    → joined done (begun m more) ≡ joined (done ++ m ∷ []) more
joined-more done m None = refl
joined-more done m (Some rest) = ap Some (sym (append_assoc done (m ∷ []) rest))

reads : (e : EntryTold) (es : List EntryTold) (bytes : List ℕ) (m : ManifestEntry) → told_entry e bytes ≡ Some m
    → told_entries (e ∷ es) bytes ≡ begun m (told_entries es (drop (e.path + e.size) bytes))
unfolding told_entries
reads e es bytes m is =
    ap (option_and_then (λ (entry : ManifestEntry). begun entry (told_entries es (drop (e.path + e.size) bytes)))) is

ends : (e : EntryTold) (es : List EntryTold) (bytes : List ℕ) → told_entry e bytes ≡ None
    → told_entries (e ∷ es) bytes ≡ None
unfolding told_entries
ends e es bytes is =
    ap (option_and_then (λ (entry : ManifestEntry). begun entry (told_entries es (drop (e.path + e.size) bytes)))) is

module _ (told : List EntryTold) (bytes rest : List ℕ) (i : ℕ) (done : List Entry)
    (so_far : told_entries told bytes ≡ joined (map entry_of done) (told_entries (drop i told) rest)) where
  next : (e : EntryTold) → i < length told
      → told_entries (drop i told) rest ≡ told_entries (get_or told i e ∷ drop (i + 1) told) rest
  next e lt = at_drop_more (λ es. told_entries es rest) told i e lt

  pub read-more : (e : EntryTold) → i < length told → (o : Option (Entry × Bor (List ℕ))) (made : Entry)
      (behind : Bor (List ℕ)) → o ≡ Some (made, behind)
      → option_map (λ (m : Entry × Bor (List ℕ)). entry_of m.0) o ≡ told_entry (get_or told i e) rest
      → IfSome o (λ (m : Entry × Bor (List ℕ)). m.1.now ≡ drop ((get_or told i e).path + (get_or told i e).size) rest)
      → (more : List Entry) → more ≡ done ++ made ∷ []
      → told_entries told bytes ≡ joined (map entry_of more) (told_entries (drop (i + 1) told) behind.now)
  read-more e lt o made behind some is goes more pushed =
      let x = get_or told i e in
      let others = drop (i + 1) told in
      let here : told_entry x rest ≡ Some (entry_of made) =
      sym is ∙ ap (option_map (λ (m : Entry × Bor (List ℕ)). entry_of m.0)) some in
      let next_bytes : behind.now ≡ drop (x.path + x.size) rest =
      subst (λ r. IfSome r (λ (m : Entry × Bor (List ℕ)). m.1.now ≡ drop (x.path + x.size) rest)) some goes in
      so_far
      ∙ ap (joined (map entry_of done)) (next e lt ∙ reads x others rest (entry_of made) here)
      ∙ joined-more (map entry_of done) (entry_of made) _
      ∙ ap (λ b. joined (map entry_of done ++ entry_of made ∷ []) (told_entries others b)) (sym next_bytes)
      ∙ ap (λ xs. joined xs (told_entries others behind.now))
      (sym (ap (map entry_of) pushed ∙ map_push entry_of done made))

  -- an entry that is none
  pub read-none : (e : EntryTold) → i < length told → (o : Option (Entry × Bor (List ℕ))) → o ≡ None
      → option_map (λ (m : Entry × Bor (List ℕ)). entry_of m.0) o ≡ told_entry (get_or told i e) rest
      → told_entries told bytes ≡ None
  read-none e lt o none is =
      let here : told_entry (get_or told i e) rest ≡ None =
      sym is ∙ ap (option_map (λ (m : Entry × Bor (List ℕ)). entry_of m.0)) none in
      so_far ∙ ap (joined (map entry_of done)) (next e lt ∙ ends (get_or told i e) (drop (i + 1) told) rest here)

  -- ---- the end

  last : length told ≤ i → told_entries (drop i told) rest ≡ told_entries [] rest
  last over = at_drop_all (λ es. told_entries es rest) told i over

  pub read-all : length told ≤ i → length rest ≡ 0 → told_entries told bytes ≡ Some (map entry_of done)
  unfolding told_entries
  read-all over none = go rest refl where
    go : (r : List ℕ) → rest ≡ r → told_entries told bytes ≡ Some (map entry_of done)
    go [] empty = so_far ∙ ap (joined (map entry_of done)) (last over ∙ ap (λ r. told_entries [] r) empty)
        ∙ ap Some (append-nil (map entry_of done))
    go (b ∷ bs) some = absurd (omega (arith, none, ap length some))

  pub read-left : length told ≤ i → length rest ≢ 0 → told_entries told bytes ≡ None
  unfolding told_entries
  read-left over left = go rest refl where
    go : (r : List ℕ) → rest ≡ r → told_entries told bytes ≡ None
    go [] empty = absurd (left (ap length empty))
    go (b ∷ bs) some = so_far ∙ ap (joined (map entry_of done)) (last over ∙ ap (λ r. told_entries [] r) some)
