-- Sources for contracts that show what a source is.
use Rattle.std.specs.Prelude.{true, false, [], ◌∷◌, codes}
use Rattle.lfs_model.specs.layers.Source.{TreeSource}

-- A source with one file `a`, whose contents are `hello`.
abbrev pub file_source : TreeSource
file_source = record { names = λ folder. (codes "a", false) ∷ []; bytes = λ path. codes "hello" }

-- A source in which every folder has a folder `d` and a file `a`, whose contents are its path.
abbrev pub endless_source : TreeSource
endless_source = record { names = λ folder. (codes "d", true) ∷ (codes "a", false) ∷ []; bytes = λ path. path }
