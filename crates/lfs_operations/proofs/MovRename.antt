-- A rename across pairs to a new name, from the entry's slot and the one at which the name belongs.
use Rattle.lfs_operations.proofs.Common.{Bool, false, List, [], ◌∷◌, ◌++◌, length, None, refl, ap, subst, ◌∙◌, Disk, IsInsertionPosition, AreU32Addresses, Name, gstate_xor, Pair, Path, tree_renaming, without_prefix, IsDirectoryAtPath, all_entries, IsChangedImage, no_move_from, nothing_there, place_at, IsPlace, place_of_belongs, site, Site, thread_at, KeptThread, thread_pair, IsPairChangedOrDropped, CanEditIn, gstate_with_move, CanMoveBetweenPairs, IsMovedBetweenPairs, Route}
use Rattle.lfs_operations.proofs.AlteredAcross.{moved_alters}
use Rattle.lfs_model.proofs.SetMoves.{HasTurned, set_new, walk_by}
use Rattle.lfs_operations.proofs.MovStep.{first_turned}
use Rattle.lfs_operations.proofs.RenameMade.{site_of, stand_of}
use Rattle.lfs_operations.proofs.MovPlaced.{IsAimed, IsPlaceInOtherPair, ended_aimed, setting, aimed}
use Rattle.lfs_operations.proofs.PairAt.{HasPairAt, pair_at}

module _ (sync : Bool) (t : KeptThread) (route : Route) (name : Name) (rename : CanMoveBetweenPairs false sync t route name) (address : AreU32Addresses (thread_pair t route.old_pair).at) where
  abbrev can : CanEditIn t route.old_pair route.old_id
  can = rename.old

  abbrev b : IsInsertionPosition t.disk.order t.pairs rename.to_first name route.new_pair route.new_id
  b = rename.target.belongs

  abbrev p : Pair
  p = b.pair

  abbrev w : Site
  w = site t.disk t.pairs rename.path rename.at can.ready.accepted rename.leads rename.to_first route.new_pair p (b.later ++ b.rest) b.place rename.begins

  stand : HasPairAt t route.new_pair rename.path rename.at w p
  stand = pair_at t can.ready rename.path rename.at rename.leads rename.to_first route.new_pair p (b.later ++ b.rest) b.place rename.begins

  aim : IsPlaceInOtherPair t route can rename.path rename.at w p b.left None b.right name
  aim = record {
    logged = record { ready = can.ready; first = rename.to_first; rest = b.later ++ b.rest; place = b.place; logged = rename.logged };
    stand = stand;
    number = b.number;
    apart = rename.apart;
    was = b.held;
    front = λ e. b.fronted;
    named = rename.target.is_name;
    fits = rename.fits;
  }

  place : IsPlace t.disk.order (all_entries t.pairs rename.at) (place_at w b.left) name
  place = place_of_belongs t.disk t.pairs rename.path rename.at can.ready.accepted rename.leads rename.to_first route.new_pair route.new_id name (no_move_from t.pairs can.ready.settled) b rename.begins

  abbrev from : Path
  from = can.path ++ can.name ∷ []

  abbrev to : Path
  to = rename.path ++ name ∷ []

  follows : (disk : Disk) (x : Pair) (more : List Pair) → HasTurned t.disk w p (b.left ++ record can.stands.stands.slot { name = name } ∷ b.right) (gstate_xor (gstate_with_move sync can.stands.pair.at (length can.stands.stands.left)) p.content.move) disk x more
      → IsChangedImage t.disk (thread_at w (p ∷ [])) disk (thread_at w (x ∷ more)) (tree_renaming from to) (walk_by from to)
  follows disk x more turned = subst (λ (n : Name). IsChangedImage t.disk (thread_at w (p ∷ [])) disk (thread_at w (x ∷ more)) (tree_renaming (can.path ++ n ∷ []) to) (walk_by (can.path ++ n ∷ []) to)) can.stands.stands.named
      (set_new t.disk (site_of can) can.stands.pair can.stands.stands.left can.stands.stands.slot can.stands.stands.right w p b.left (record can.stands.stands.slot { name = name }) b.right sync disk x more turned
      can.path can.at (subst (λ z. IsDirectoryAtPath z can.path can.at) stand.there can.leads) (stand_of can).begin rename.path rename.at stand.leads stand.begin
      (setting rename.begins_old aim) refl (ap (λ (n : Name). without_prefix (can.path ++ n ∷ []) to) can.stands.stands.named ∙ rename.not_beneath)
      (subst (λ z. IsPlace t.disk.order (all_entries z rename.at) (place_at w b.left) name) stand.there place))

  pub aimed_new : IsAimed false sync t route name rename.old rename.path w p rename.target.belongs.left None rename.target.belongs.right
  aimed_new = aimed rename.begins_old aim sync address follows (nothing_there t.disk t.pairs rename.path rename.at (place_at w b.left) name rename.leads place).0 (λ e. tt)

-- the pair is changed or dropped
pub across_alters : {t : KeptThread} {route : Route} {name : Name} (rename : CanMoveBetweenPairs false false t route name) {new : KeptThread} → IsMovedBetweenPairs false false t route name new → IsPairChangedOrDropped t route.new_pair new
across_alters {t = t} {route = route} {name = name} rename {new = new} h =
    let a = aimed_new false t route name rename h.address in
    moved_alters a.way h.done.mid (first_turned a.way h.done.mid h.done.put) new (ended_aimed a h.done)
