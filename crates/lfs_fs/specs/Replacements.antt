-- An attribute that replaces another one.
use Rattle.std.specs.Prelude.{ℕ, ◌+◌, ◌≤◌, ◌<◌, ◌^◌, Option, Vec, length}
use Rattle.std.specs.Option.{option_map_or}
use Rattle.std.specs.declared.alloc.Global.{Global}

-- how many bytes an attribute costs in its pair: 4 of its tag and its value's
abbrev pub replaced_attribute_size : Option (Vec ℕ Global) → ℕ
replaced_attribute_size replaced = option_map_or (λ v. 4 + length v.items) replaced 0

-- the sizes fit: the replaced attribute costs no more than all attributes with the new one
pub record IncludesReplacedAttribute (size : ℕ) (replaced : Option (Vec ℕ Global)) (len : ℕ) : Type 0 where
  pub small : size < 2 ^ 32
  pub short : len < 2 ^ 63
  pub among : replaced_attribute_size replaced ≤ size + (4 + len)
