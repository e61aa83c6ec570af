-- Worked cases: calls on names from a root alone on, with each list of files written out, and files that break a rule.
use Rattle.name_rules.proofs.Common.{◌≡◌, ℕ, zero, suc, ◌≤◌, List, [], ◌∷◌, None, Option, Some, refl, arith, Entry}
use Rattle.name_rules.proofs.Common.{Files, Node, Spot, dot, dot_dot, enter, erase, free_number, lookup, place_of, slot}
use Rattle.name_rules.proofs.Common.{with_entry, Directory, File, KeepsSize, all_entries, names_of, linked, made_at}
use Rattle.name_rules.proofs.Common.{made_directory, make_at, unlinked, KeepsLive, KeepsTree, folders, names_by}
use Rattle.name_rules.proofs.Common.{names_for}
use Rattle.name_rules.proofs.Adding.{keeps-linked, keeps-made, keeps-made-directory}
use Rattle.name_rules.proofs.Dropping.{keeps-unlinked}
use Rattle.name_rules.proofs.Quiet.{leaves, releases, writes-bytes}

-- an entry, and the two that a directory begins with
abbrev e : List ℕ → ℕ → Option Entry
e name n = Some (record { name = name; number = n })

-- ---- a root alone

abbrev bare : Files
bare = None ∷ Some (Directory 1 (e dot 1 ∷ e dot_dot 1 ∷ [])) ∷ None ∷ None ∷ None ∷ []

bare-keeps : KeepsTree bare
unfolding names_of all_entries names_by folders
bare-keeps = record {
  root = record { links = 0; places = e dot 1 ∷ e dot_dot 1 ∷ []; here = refl };
  sizes = sizes;
  named = named;
  nodes = nodes;
  depth = λ n. 0;
  ranked = λ d n h t. absurd (none d n h);
}
  where
    named : (n : ℕ) → names_of bare n ≡ names_for n (slot bare n)
    named (suc (suc (suc (suc (suc n))))) = refl
    named _ = refl

    sizes : (n : ℕ) → KeepsSize (slot bare n)
    sizes (suc zero) = omega arith
    sizes (suc (suc (suc (suc (suc n))))) = tt
    sizes _ = tt

    nodes : (n : ℕ) → KeepsLive bare n (slot bare n)
    nodes (suc zero) = record {
      own = refl;
      up = 1;
      parent = refl;
      above = record { root = λ h. refl; names = λ h. absurd (h refl) };
      good = refl;
      once = λ name. omega arith;
      counted = refl;
    }
    nodes (suc (suc (suc (suc (suc n))))) = tt
    nodes _ = tt

    none : (d n : ℕ) → 1 ≤ names_by (slot bare d) n → ⊥
    none (suc (suc (suc (suc (suc d))))) n h = omega arith
    none _ n h = omega arith

-- ---- mkdir d, mknod d/f as a file, link d/f g, a write, unlink d/f, unlink d, unlink g

abbrev d_name : List ℕ
d_name = 0x64 ∷ []

abbrev f_name : List ℕ
f_name = 0x66 ∷ []

abbrev g_name : List ℕ
g_name = 0x67 ∷ []

abbrev spot : ℕ → List ℕ → Spot
spot d name = record { directory = d; name = name }

-- the files from the root on
abbrev with_nodes : Option Node → Option Node → Option Node → Files
with_nodes root two three = None ∷ root ∷ two ∷ three ∷ None ∷ []

abbrev folder : ℕ → ℕ → ℕ → List (Option Entry) → Option Node
folder links n up places = Some (Directory links (e dot n ∷ e dot_dot up ∷ places))

abbrev made_folder : Files
made_folder = with_nodes (folder 2 1 1 (e d_name 2 ∷ [])) (folder 1 2 1 []) None

folder-keeps : KeepsTree made_folder
unfolding made_directory make_at free_number enter with_entry lookup
folder-keeps = (keeps-made-directory bare-keeps (spot 1 d_name)
    (record { links = 0; places = e dot 1 ∷ e dot_dot 1 ∷ []; here = refl; name = refl }) made_folder refl).tree

abbrev made_file : Files
made_file = with_nodes (folder 2 1 1 (e d_name 2 ∷ [])) (folder 1 2 1 (e f_name 3 ∷ [])) (Some (File 1 []))

file-keeps : KeepsTree made_file
unfolding made_at make_at free_number enter with_entry lookup
file-keeps =
    (keeps-made folder-keeps (spot 2 f_name)
    (record { links = 0; places = e dot 2 ∷ e dot_dot 1 ∷ []; here = refl; name = refl })
    (λ n. File 1 []) (λ n. record { kind = refl; links = refl; size = omega arith })
    (record { files = made_file; number = 3 }) refl).tree

abbrev linked_file : Files
linked_file = with_nodes (folder 2 1 1 (e d_name 2 ∷ e g_name 3 ∷ [])) (folder 1 2 1 (e f_name 3 ∷ []))
    (Some (File 2 []))

linked-keeps : KeepsTree linked_file
unfolding linked enter with_entry lookup
linked-keeps =
    (keeps-linked file-keeps (spot 1 g_name)
    (record { links = 1; places = e dot 1 ∷ e dot_dot 1 ∷ e d_name 2 ∷ []; here = refl; name = refl }) 3
    linked_file refl).tree

written-keeps : KeepsTree
    (with_nodes (folder 2 1 1 (e d_name 2 ∷ e g_name 3 ∷ [])) (folder 1 2 1 (e f_name 3 ∷ [])) (Some (File 2 (7 ∷ []))))
written-keeps = (writes-bytes linked-keeps 3 2 [] (7 ∷ []) refl (omega arith)).tree

abbrev one_name : Files
one_name = with_nodes (folder 2 1 1 (e d_name 2 ∷ e g_name 3 ∷ [])) (folder 1 2 1 (None ∷ [])) (Some (File 1 (7 ∷ [])))

unlinked-keeps : KeepsTree one_name
unfolding unlinked erase lookup place_of
unlinked-keeps = (keeps-unlinked written-keeps (spot 2 f_name) one_name refl).tree

abbrev removed_folder : Files
removed_folder = with_nodes (folder 1 1 1 (None ∷ e g_name 3 ∷ [])) (folder 0 2 1 (None ∷ [])) (Some (File 1 (7 ∷ [])))

removed-keeps : KeepsTree removed_folder
unfolding unlinked erase lookup place_of
removed-keeps = (keeps-unlinked unlinked-keeps (spot 1 d_name) removed_folder refl).tree

-- a removed directory and a file without names
abbrev held_alone : Files
held_alone = with_nodes (folder 1 1 1 (None ∷ None ∷ [])) (folder 0 2 1 (None ∷ [])) (Some (File 0 (7 ∷ [])))

held-keeps : KeepsTree held_alone
unfolding unlinked erase lookup place_of
held-keeps = (keeps-unlinked removed-keeps (spot 1 g_name) held_alone refl).tree

released-keeps : KeepsTree (with_nodes (folder 1 1 1 (None ∷ None ∷ [])) (folder 0 2 1 (None ∷ [])) None)
released-keeps = releases held-keeps 3 (File 0 (7 ∷ [])) refl refl

left-keeps : KeepsTree (with_nodes (folder 1 1 1 (None ∷ None ∷ [])) None None)
left-keeps = leaves held-keeps

-- ---- refused: too many links, a name of no node, a removed directory that is named, a directory that names itself

abbrev too_many : Files
too_many = with_nodes (folder 1 1 1 (e f_name 3 ∷ [])) None (Some (File 2 []))

too-many-refused : KeepsTree too_many → ⊥
unfolding names_of all_entries
too-many-refused keeps = let h = keeps.named 3 in absurd (omega arith)

of-no-node-refused : KeepsTree (with_nodes (folder 1 1 1 (e f_name 3 ∷ [])) None None) → ⊥
unfolding names_of all_entries
of-no-node-refused keeps = let h = keeps.named 3 in absurd (omega arith)

removed-named-refused : KeepsTree (with_nodes (folder 1 1 1 (e d_name 2 ∷ [])) (folder 0 2 1 []) None) → ⊥
unfolding names_of all_entries
removed-named-refused keeps = let h = keeps.named 2 in absurd (omega arith)

-- its links and its one name are right, but it lies nowhere
own-name-refused : KeepsTree (with_nodes (folder 1 1 1 []) (folder 2 2 2 (e d_name 2 ∷ [])) None) → ⊥
unfolding names_by
own-name-refused keeps = let h = keeps.ranked 2 2 (omega arith) refl in absurd (omega arith)
