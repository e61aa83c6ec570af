-- The format that a name stands for.
use Rattle.unixmodel.specs.Formats.{large, small}
use Rattle.unixmodel.specs.Formats as formats
use Rattle.layout.specs.declared.Format.{Format}
use Rattle.layout.specs.declared.Format.TheVariants.{Large, Small}

abbrev pub format_named : Format → formats.Format
format_named Small = small
format_named Large = large
