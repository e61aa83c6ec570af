use Rattle.std.proofs.Common.{◌≡◌, ◌∙◌, Some, ap, arith, length, sym}
use Rattle.std.proofs.lemmas.List.{take_at}
use Rattle.image_files.proofs.Replacing.{whole-read}
use Rattle.tree.specs.Tree.{FileTree}
use Rattle.unixmodel.specs.Files.{slot}
use Rattle.unixmodel.specs.Files.Node.{File}
use Rattle.image_files.proofs.getting.bytes_of.Goals as goal

pub stat-requires-clause-node : goal.stat-requires-clause-node
stat-requires-clause-node g c = (File c.requires.file.links c.requires.file.bytes, c.requires.file.here)

pub read-requires-clause-node : goal.read-requires-clause-node
read-requires-clause-node g c = (
  File c.requires.file.links c.requires.file.bytes,
  ap (λ (t : FileTree). slot t.files c.args.number) c.in_ok-size.ensures.told.0 ∙ c.requires.file.here,
)

pub returns : goal.returns
returns g c =
    let file = c.requires.file in
    let size = (c.in_ok-size.ensures.told.1 (File file.links file.bytes) file.here).2 in
    let mid = ap (λ (t : FileTree). slot t.files c.args.number) c.in_ok-size.ensures.told.0 ∙ file.here in
    let told = c.in_ok-_count.ensures.told.1 (File file.links file.bytes) mid in
    let long : length c.as_mut_slice.result.now ≡ length file.bytes =
    omega (arith, size, c.as_mut_slice.ensures.len, c.in_ok-bytes.ensures.len) in
    let whole : c.read.new.out ≡ file.bytes = whole-read file.bytes _ _ _ long told.0 told.1 in
    let all : length c.read.new.out ≡ c.in_ok-bytes.bytes.len =
    omega (arith, ap length whole, size, c.in_ok-bytes.ensures.len) in
    record {
      links = file.links;
      here = file.here
          ∙ ap (λ bytes. Some (File file.links bytes))
          (sym (take_at c.read.new.out _ c.in_ok-bytes.bytes.len all ∙ whole));
    }
