-- What the kernel's steps do to the memory of the running process.
use Rattle.std.specs.Prelude.{List, ℕ}
use Rattle.kernel.specs.Kernel.{Kernel}
use Rattle.spaces.specs.Spaces.{SpaceView, put_behind, read_at, taken_to, view_at, with_view, written}
use Rattle.unixmodel.specs.Numbers.{ceil_div}
use Rattle.unixmodel.specs.ProcessCalls.{with_pages}

-- process i has another space
abbrev pub reheld : Kernel → ℕ → SpaceView → Kernel
reheld k i h = record k { spaces = with_view k.spaces i h }

-- these bytes are written to the memory of process i, from an address on
abbrev pub wrote : Kernel → ℕ → ℕ → List ℕ → Kernel
wrote k i address bytes = reheld k i (written (view_at k.spaces i) address bytes)

-- process i moves at most `count` bytes of pipe q to an address
abbrev pub drew : Kernel → ℕ → ℕ → ℕ → ℕ → Kernel
drew k i q address count = record k { spaces = taken_to k.spaces q i address count }

-- process i appends at most `count` bytes from an address on to pipe q, as many as fit
abbrev pub sent : Kernel → ℕ → ℕ → ℕ → ℕ → Kernel
sent k i q address count = record k { spaces = put_behind k.spaces q (read_at (view_at k.spaces i) address count) }

-- a space with another size
abbrev pub sized : SpaceView → ℕ → SpaceView
sized h size = record { memory = with_pages h.memory (ceil_div size 4096); size = size }

-- process i with another size
abbrev pub resized : Kernel → ℕ → ℕ → Kernel
resized k i size = reheld k i (sized (view_at k.spaces i) size)
