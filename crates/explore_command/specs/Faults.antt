-- Why an outcome isn't shown.
use Rattle.explore_command.specs.declared.nodes.NodeFault.{NodeFault}
use Rattle.explore_command.specs.declared.nodes.NodeFault.TheVariants as node
use Rattle.explore_command.specs.declared.shown.ShownFault.{ShownFault}
use Rattle.explore_command.specs.declared.shown.ShownFault.TheVariants as shown

abbrev pub shown_as : NodeFault → ShownFault
shown_as node.NoMemory = shown.NoMemory
shown_as node.Machine = shown.Machine
