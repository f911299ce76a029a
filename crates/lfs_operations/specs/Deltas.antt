-- Changes of the global state by the delta of one pair.
use Rattle.std.specs.Prelude.{ℕ, ◌<◌, Bool, List, [], ◌∷◌, length}
use Rattle.lfs_model.specs.layers.Changes.{ContentChange, PutMove}
use Rattle.lfs_model.specs.layers.LoggedContent.{MoveStateFits}
use Rattle.lfs_model.specs.format.Slots.{Gstate, PairContent, gstate_xor}
use Rattle.lfs_model.specs.format.Thread.{pairs_gstate, is_hard_tail}
use Rattle.lfs_model.specs.tree.View.{IsAccepted}
use Rattle.lfs_model.specs.tree.Profile.{IsWritable}
use Rattle.lfs_thread.specs.Kept.{KeptThread}
use Rattle.lfs_thread.specs.ThreadSteps.{thread_pair}

-- The new delta of a pair by which the global state becomes g.
abbrev pub delta_reaching_gstate : KeptThread → ℕ → Gstate → Gstate
delta_reaching_gstate t index g = gstate_xor (gstate_xor g (pairs_gstate t.pairs)) (thread_pair t index).content.move

abbrev pub gstate_changes : KeptThread → ℕ → Gstate → List ContentChange
gstate_changes t index g = PutMove (delta_reaching_gstate t index g) ∷ []

-- the content of the pair with that delta
abbrev pub content_reaching_gstate : KeptThread → ℕ → Gstate → PairContent
content_reaching_gstate t index g = record { slots = (thread_pair t index).content.slots; tail = (thread_pair t index).content.tail; move = delta_reaching_gstate t index g }

abbrev pub tail_is_hard : KeptThread → ℕ → Bool
tail_is_hard t index = is_hard_tail (thread_pair t index).content.tail

-- the premises of a commit that sets the state: a pair in an image that may be written, and a state that can be stored
pub record CanSetGstate (t : KeptThread) (index : ℕ) (g : Gstate) : Type 0 where
  pub accepted : IsAccepted t.disk t.pairs
  pub writable : IsWritable t.disk t.pairs
  pub below : index < length t.pairs
  pub storable : MoveStateFits g
