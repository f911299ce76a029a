-- The bytes of a part of a list are bytes.
use Rattle.std.proofs.Common.{ℕ, zero, suc, List, [], ◌∷◌, take, drop, arith}
use Rattle.lfs_model.specs.format.Blocks.{cut}
use Rattle.lfs_device.specs.Bytes.{ElementsAreBytes, AreByteBlocks}

none : ElementsAreBytes []
none i = omega arith

AreBytes-take : (n : ℕ) (xs : List ℕ) → ElementsAreBytes xs → ElementsAreBytes (take n xs)
AreBytes-take zero xs are i = none i
AreBytes-take (suc n) [] are i = none i
AreBytes-take (suc n) (x ∷ xs) are zero = are 0
AreBytes-take (suc n) (x ∷ xs) are (suc i) = AreBytes-take n xs (λ j. are (suc j)) i

AreBytes-drop : (n : ℕ) (xs : List ℕ) → ElementsAreBytes xs → ElementsAreBytes (drop n xs)
AreBytes-drop zero xs are = are
AreBytes-drop (suc n) [] are = none
AreBytes-drop (suc n) (x ∷ xs) are = AreBytes-drop n xs (λ j. are (suc j))

-- The blocks cut from a list of bytes are blocks of bytes.
pub HasBytes-cut : (size count : ℕ) (bytes : List ℕ) → ElementsAreBytes bytes → AreByteBlocks (cut size count bytes)
HasBytes-cut size zero bytes are b i = none i
HasBytes-cut size (suc count) bytes are zero i = AreBytes-take size bytes are i
HasBytes-cut size (suc count) bytes are (suc b) i = HasBytes-cut size count (drop size bytes) (AreBytes-drop size bytes are) b i
