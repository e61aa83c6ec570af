use Rattle.imagemake.proofs.Common.{Ok, Some, ap, subst, sym, ◌∙◌, put, bare_directory, node_for, Bytes, IsNow}
use Rattle.imagemake.proofs.Common.{now-begin, now-turned, now-up, Puts, thing_of, bare}
use Rattle.imagemake.proofs.Putting.{here-now, puts-done, puts-last, puts-lost, still-used, took-thing}
use Rattle.imagemake.proofs.store.store_node.Goals as goal

pub returns-in_err-take_node_at : goal.returns-in_err-take_node_at
returns-in_err-take_node_at g c =
    puts-lost now-begin c.take_node_at.ensures.serves.cause c.in_err-take_node_at.was c.from_residual.ensures.1

pub put_dots-requires : goal.put_dots-requires
put_dots-requires g c =
    let took = took-thing _ c.kind.ensures (now-turned now-begin c.take_node_at.ensures c.in_ok-take_node_at.was) in
    record {
      up = now-up took c.requires.up;
      bare = here-now (bare (thing_of c.args.thing.now)) c.requires.number took
          ∙ ap (λ t. Some (bare (thing_of t))) c.in-Directory.is;
      directory =
          still-used (bare (thing_of c.args.thing.now)) c.requires.number took c.args.directory c.requires.directory;
    }

pub returns-in-Directory : goal.returns-in-Directory
returns-in-Directory g c =
    let took = took-thing _ c.kind.ensures (now-turned now-begin c.take_node_at.ensures c.in_ok-take_node_at.was) in
    subst (λ t. Puts c.args.tree.now c.put_dots.new.tree c.args.number (node_for c.args.number c.args.directory t)
    c.put_dots.result) (sym (ap thing_of c.in-Directory.is))
    (puts-last c.args.number (bare (thing_of c.args.thing.now)) (bare_directory c.args.number c.args.directory)
    took c.put_dots.result c.put_dots.ensures)

pub put_bytes-requires : goal.put_bytes-requires
put_bytes-requires g c =
    let took = took-thing _ c.kind.ensures (now-turned now-begin c.take_node_at.ensures c.in_ok-take_node_at.was) in
    record {
      up = now-up took c.requires.up;
      bare = here-now (bare (thing_of c.args.thing.now)) c.requires.number took
          ∙ ap (λ t. Some (bare (thing_of t))) c.in-File.is;
    }

pub returns-in-File : goal.returns-in-File
returns-in-File g c =
    let took = took-thing _ c.kind.ensures (now-turned now-begin c.take_node_at.ensures c.in_ok-take_node_at.was) in
    let is = ap thing_of c.in-File.is ∙ ap Bytes (sym c.deref.ensures.value) in
    subst (λ t. Puts c.args.tree.now c.put_bytes.new.tree c.args.number (node_for c.args.number c.args.directory t)
    c.put_bytes.result) (sym is) (puts-last _ _ _ took _ c.put_bytes.ensures)

pub returns-in-Device : goal.returns-in-Device
returns-in-Device g c =
    let took = took-thing _ c.kind.ensures (now-turned now-begin c.take_node_at.ensures c.in_ok-take_node_at.was) in
    let is = ap thing_of c.in-Device.is in
    subst (λ t. Puts c.args.tree.now c.take_node_at.new.self c.args.number (node_for c.args.number c.args.directory t)
    (Ok tt)) (sym is)
    (puts-done (subst (λ t. IsNow c.args.tree.now c.take_node_at.new.self
    (put c.args.tree.now.files c.args.number (bare t))) is took))
