use Rattle.imagemake.proofs.Common.{ap, arith, length, sym, ◌∙◌, bare_files, meaning, now-begin, now-files, now-limit}
use Rattle.imagemake.proofs.Common.{now-turned, now-up}
use Rattle.imagemake.proofs.Imaging.{makes-all, refuses-all}
use Rattle.imagemake.proofs.Putting.{length-bare, Owns-after, Owns-failed}
use Rattle.imagemake.proofs.put_files.Goals as goal

pub store_root-requires : goal.store_root-requires
store_root-requires g c =
    record {
      up = c.requires.able.up;
      none = c.requires.none;
      some = omega (arith, c.requires.able.some);
      block = c.requires.able.block;
    }

pub returns-in_default : goal.returns-in_default
returns-in_default g c = record {
  made = tt;
  refused = tt;
  cause = Owns-failed (omega arith) c.store_root.ensures.serves.cause c.in_default.is;
}

pub add_entries-requires : goal.add_entries-requires
add_entries-requires g c =
    let now = now-turned now-begin c.store_root.ensures c.in-Ok.is in
    let long = ap length (now-files now) ∙ length-bare _ (omega (arith, c.requires.able.some)) in
    record {
      able = record {
        up = now-up now c.requires.able.up;
        some = omega (arith, c.requires.able.some, long);
        block = omega (arith, c.requires.able.block, now-limit now);
        empty = c.requires.able.empty;
        room = omega (arith, c.requires.able.room, long);
      };
      root = now-files now ∙ ap bare_files (sym long);
    }

pub returns : goal.returns
returns g c =
    let now = now-turned now-begin c.store_root.ensures c.in-Ok.is in
    let long = ap length (now-files now) ∙ length-bare _ (omega (arith, c.requires.able.some)) in
    record {
      made = makes-all now long (meaning c.args.entries.now) c.add_entries.new.tree c.add_entries.result
          c.add_entries.ensures.made;
      refused = refuses-all now long (meaning c.args.entries.now) c.add_entries.result c.add_entries.ensures.refused;
      cause = Owns-after now.later c.add_entries.ensures.cause;
    }
