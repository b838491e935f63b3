-- The layout of the slots, by a flag.
use Rattle.std.specs.Prelude.{Bool, if◌then◌else◌}
use Rattle.cf_base.specs.declared.kind.Layout.{Layout}
use Rattle.cf_base.specs.declared.kind.Layout.TheVariants.{Blocks, Words}

-- `Blocks` if the slots are in blocks of four words, else `Words`
abbrev pub layout_if : Bool → Layout
layout_if in_blocks = if in_blocks then Blocks else Words
