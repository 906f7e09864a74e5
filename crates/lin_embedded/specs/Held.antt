-- What a handle owns: nothing where it is null, and else the block of a recorder.
use Rattle.std.specs.Prelude.{Option, Some, None}
use base.Fml.{Fml, ftrue, ffalse}
use denote.RawPtr.{Ptr, block_ptr, null_ptr}
use Rattle.std.specs.Box.Ownership.{box_owns}
use Rattle.std.specs.Global.{Global}
use Rattle.std_heap.specs.contracts.GlobalAllocator.TheImpl.{ghosts}
use Rattle.lin_embedded.specs.contracts.recorder.Recorder.{the_row}

abbrev pub handle_owns : Global → Ptr → Option the_row.Denot → Fml
handle_owns alloc null_ptr None = ftrue
handle_owns alloc null_ptr (Some s) = ffalse
handle_owns alloc (block_ptr b o) None = ffalse
handle_owns alloc (block_ptr b o) (Some s) = box_owns (ghosts.dealloc_token alloc) the_row (block_ptr b o) s
