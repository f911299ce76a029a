-- Devices that have had at least one call.
use Rattle.std.proofs.Common.{◌≡◌, ◌<◌, List, [], ◌∷◌, ◌++◌, sym, ap, ◌∙◌, arith}
use Rattle.std.specs.Prelude.{◌≢◌}
use Rattle.lfs_fs.proofs.Common.{CallEvent, read_count}
use Rattle.lfs_model.specs.session.History.{erase_count}

-- calls are only added to the history
pub still_called : (old new calls : List CallEvent) → new ≡ calls ++ old → old ≢ [] → new ≢ []
still_called old new calls e some none = go calls (sym e ∙ none)
  where
    go : (xs : List CallEvent) → xs ++ old ≡ [] → ⊥
    go [] k = some k
    go (x ∷ xs) k = absurd (cc)

-- if there was a read
pub has_called : (old new : List CallEvent) → read_count old < read_count new → new ≢ []
has_called old new more none = absurd (let k = ap read_count none in omega (arith, k, more))

-- if there was an erase
pub has_erased : (old new : List CallEvent) → erase_count old < erase_count new → new ≢ []
has_erased old new more none = absurd (let k = ap erase_count none in omega (arith, k, more))
