-- A slot and its parts own what a box at the same types owns.
use mir.Syntax.{impl, tnil, dnil}
use mathlib.Core.List.{[]}
use denote.Signature.{Slot, plain}
use Rattle.std_alloc.proofs.BoxSteps.Form.{Bx}
use Rattle.std_heap.specs.contracts.Global as Heap
use Rattle.std_heap.specs.contracts.GlobalAllocator.TheImpl.{ghosts, dict}
use Rattle.std_heap.proofs.Global.TheLaws as heap
use Rattle.littlefs_c.proofs.mounted.Mounted.TheLaws as mounted
use Rattle.littlefs_c.specs.contracts.mounted.Mounted as Mounted
use Rattle.littlefs_values.specs.contracts.parts.Parts as Parts
use Rattle.littlefs_c.specs.contracts.slot.Slot as Seal

abbrev pub E : Bx
E = record { row = Mounted.the_row; laws = mounted.the_row_laws; al = record { row = Heap.the_row; laws = heap.the_row_laws; g = ghosts; d = dict; drops = impl [] tnil dnil } }

abbrev pub FromParts : Slot 0
FromParts = plain (λ _. Parts.the_row Mounted.the_row Heap.the_row ghosts)

abbrev pub FromSeal : Slot 0
FromSeal = plain (λ _. Seal.the_row)
