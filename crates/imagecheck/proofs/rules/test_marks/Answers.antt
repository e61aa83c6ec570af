use Rattle.imagecheck.proofs.Common.{◌∙◌, MatchBool-at_false, MatchBool-at_true, iff_false, BlockRules-of}
use Rattle.imagecheck.proofs.rules.test_marks.Goals as goal

pub names_once-requires : goal.names_once-requires
names_once-requires c = record {
  geometry = c.requires.geometry;
  sizes = c.requires.inodes.sizes;
  addresses = c.requires.addresses;
  long = c.requires.long;
  fresh = c.requires.fresh;
}

pub returns-then-not-names_once : goal.returns-then-not-names_once
returns-then-not-names_once c = record {
  judged = (
    c.requires.inodes,
    c.requires.addresses,
    MatchBool-at_false _ _ c.if-not-names_once.true c.names_once.ensures,
  );
  own = tt;
}

pub has_bitmap-requires : goal.has_bitmap-requires
has_bitmap-requires c = record {
  geometry = c.requires.geometry;
  long = c.names_once.auto.marks ∙ c.requires.long;
  marks = MatchBool-at_true _ _ c.if-not-names_once.false c.names_once.ensures;
}

pub returns-then-not-has_bitmap : goal.returns-then-not-has_bitmap
returns-then-not-has_bitmap c = record {
  judged = (
    c.requires.inodes,
    c.requires.addresses,
    (MatchBool-at_true _ _ c.if-not-names_once.false c.names_once.ensures).once,
    iff_false c.has_bitmap.ensures c.if-not-has_bitmap.true,
  );
  own = tt;
}

pub returns : goal.returns
returns c = record {
  judged = BlockRules-of (record {
    inodes = c.requires.inodes;
    addresses = c.requires.addresses;
    once = (MatchBool-at_true _ _ c.if-not-names_once.false c.names_once.ensures).once;
    bitmap = c.has_bitmap.ensures.0 c.if-not-has_bitmap.false;
  });
  own = tt;
}
