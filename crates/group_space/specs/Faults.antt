-- What a space that was not read is answered, by what its page was answered.
use Rattle.inobt_leaf.specs.declared.reading.PageFault.{PageFault}
use Rattle.inobt_leaf.specs.declared.reading.PageFault.TheVariants as page
use Rattle.group_space.specs.declared.reading.SpaceFault.{SpaceFault}
use Rattle.group_space.specs.declared.reading.SpaceFault.TheVariants as space

abbrev pub space_fault : PageFault → SpaceFault
space_fault page.Malformed = space.Malformed
space_fault page.NoMemory = space.NoMemory
