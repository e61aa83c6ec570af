use Rattle.imagemake.proofs.Common.{ap, arith, refl, sym, subst, ◌∙◌, err_from_is_err_and, FileTree, MakesEntries}
use Rattle.imagemake.proofs.Common.{made_by, Refuses, meaning, held-again}
use Rattle.imagemake.proofs.Imaging.{bare-tree, blank-stores, makes-image, none-refused, only-memory, possible}
use Rattle.imagemake.proofs.Imaging.{refused-entries, refused-numbers, when-ok}
use Rattle.imagemake.proofs.make.Goals as goal

pub returns-then-not-is_possible-clause-refused : goal.returns-then-not-is_possible-clause-refused
returns-then-not-is_possible-clause-refused c = refused-numbers _ _ _ (sym c.if-not-is_possible.ensures)

pub blank-requires : goal.blank-requires
blank-requires c = possible c.if-not-is_possible.ensures

pub returns-in_err-volume-clause-refused : goal.returns-in_err-volume-clause-refused
returns-in_err-volume-clause-refused c = none-refused _ _ c.from_residual.ensures.1 c.in_err-volume.ensures.only

pub is_whole-requires : goal.is_whole-requires
is_whole-requires c = c.in_ok-volume.ensures.blank.up

pub new-requires : goal.new-requires
new-requires c = held-again
    (blank-stores (possible c.if-not-is_possible.ensures) c.in_ok-volume.ensures.blank c.is_whole.ensures)

pub returns-in_err-tree-clause-refused : goal.returns-in_err-tree-clause-refused
returns-in_err-tree-clause-refused c =
    none-refused _ c.from_residual-in_err-tree.result c.from_residual-in_err-tree.ensures.1 refl

pub returns-in_err-made-clause-refused : goal.returns-in_err-made-clause-refused
returns-in_err-made-clause-refused c =
    none-refused _ c.from_residual-in_err-made.result c.from_residual-in_err-made.ensures.1 refl

pub put_files-requires : goal.put_files-requires
put_files-requires c =
    let p = possible c.if-not-is_possible.ensures in
    let bare = bare-tree p c.in_ok-volume.ensures.blank c.is_whole.ensures c.in_ok-tree.ensures in
    record {
      able = record {
        up = bare.up;
        some = omega (arith, bare.long, p.inodes_low);
        block = omega (arith, bare.limit, p.room);
        empty = c.in_ok-made.ensures.empty;
        room = omega (arith, c.in_ok-made.ensures.room, bare.long);
      };
      none = bare.none;
    }

pub returns-in_err-put_files-clause-refused : goal.returns-in_err-put_files-clause-refused
returns-in_err-put_files-clause-refused c =
    let told = err_from_is_err_and c.from_residual-in_err-put_files.result c.from_residual-in_err-put_files.ensures.1 in
    let bare = bare-tree (possible c.if-not-is_possible.ensures) c.in_ok-volume.ensures.blank c.is_whole.ensures
    c.in_ok-tree.ensures in
    let fault = c.in_err-put_files.field-0.0 in
    rw (told.1, told.2)
    (refused-entries _ _ _ (sym c.if-not-is_possible.ensures) bare fault
    (subst (λ entries. Refuses (made_by c.in_ok-tree.tree (meaning entries)) fault) c.deref.ensures.value
    c.in_err-put_files.ensures.refused))

pub into_device-device-requires : goal.into_device-device-requires
into_device-device-requires c =
    let bare = bare-tree (possible c.if-not-is_possible.ensures) c.in_ok-volume.ensures.blank c.is_whole.ensures
    c.in_ok-tree.ensures in
    record { up = ap (λ (t : FileTree). t.failed) c.in_ok-put_files.ensures.made.rest ∙ bare.up }

pub returns-clause-made : goal.returns-clause-made
returns-clause-made c =
    let bare = bare-tree (possible c.if-not-is_possible.ensures) c.in_ok-volume.ensures.blank c.is_whole.ensures
    c.in_ok-tree.ensures in
    let makes = subst (λ es. MakesEntries c.in_ok-tree.tree c.put_files.new.tree (meaning es)) c.deref.ensures.value
    c.in_ok-put_files.ensures.made in
    when-ok c.into_device-device.result.1 _ c.into_device-device.ensures.stored c.bytes_left.ensures.flushed
    c.bytes_left.ensures.bytes
    (λ image stored bytes. makes-image _ _ _ (sym c.if-not-is_possible.ensures) bare makes stored bytes)

pub returns-clause-refused : goal.returns-clause-refused
returns-clause-refused c = only-memory _ _ c.bytes_left.ensures.only
