-- The entries of a manifest, in numbers and bytes.
use Rattle.std.specs.Prelude.{Bool, List, None, Option, Some, [], drop, if◌then◌else◌, length, nat_le, option_and_then}
use Rattle.std.specs.Prelude.{option_map, take, ℕ, ◌&&◌, ◌+◌, ◌==◌, ◌∷◌}
use Rattle.imagebytes.specs.declared.entries.EntryTold.{EntryTold}
use Rattle.unixmodel.specs.Manifest.{ManifestEntry, Thing}
use Rattle.unixmodel.specs.Manifest.Thing.{Bytes, Folder, Special}

-- what an entry makes with these contents; none where it is of no kind
abbrev pub told_thing : EntryTold → List ℕ → Option Thing
told_thing e contents =
    if e.kind == 2 then Some (Bytes contents)
    else if (e.kind == 1) && (length contents == 0) then Some Folder
    else if (e.kind == 3) && (length contents == 0) then Some (Special e.major e.minor)
    else None

-- the path and the contents of an entry are at the front of these bytes
abbrev pub is_there : EntryTold → List ℕ → Bool
is_there e bytes = nat_le (e.path + e.size) (length bytes)

abbrev pub told_entry : EntryTold → List ℕ → Option ManifestEntry
told_entry e bytes =
    if is_there e bytes then option_map (λ (t : Thing). record { path = take e.path bytes; thing = t })
    (told_thing e (take e.size (drop e.path bytes)))
    else None

-- the entries whose paths and contents are these bytes, one after the other; none where they are not
unfoldable pub told_entries : List EntryTold → List ℕ → Option (List ManifestEntry)
told_entries [] [] = Some []
told_entries [] (b ∷ bytes) = None
told_entries (e ∷ es) bytes = option_and_then
    (λ (entry : ManifestEntry). option_map (λ (more : List ManifestEntry). entry ∷ more)
    (told_entries es (drop (e.path + e.size) bytes)))
    (told_entry e bytes)
