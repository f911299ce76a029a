-- What was done of the items that are unpacked.
use Rattle.std.proofs.Common.{ℕ, zero, suc, ◌≡◌, ◌<◌, ◌+◌, ◌∙◌, ◌++◌, List, [], ◌∷◌, Option, Some, None, Result, Ok, Err, ap, add-one, append_assoc, arith, get_or, length, refl, subst, sym, take}
use Rattle.std.specs.Prelude.{OnErr}
use Rattle.lfs_tool.proofs.Common.{Disk, UnpackingAction, IsWellFormedList, OnlyReadsThread, owned_view, tree_items_view, HaveWellFormedLists, HasDoneActionsPrefix, HasDoneActions, path_struct_action, path_struct_actions}
use Rattle.lfs_model.proofs.Histories.{OnlyReadsSince-trans}
use Rattle.lfs_thread.specs.Kept.{KeptThread}
use Rattle.lfs_lookup.specs.TreeWalk.{tree_item_view}
use Rattle.lfs_lookup.specs.declared.walks.TreeItem.{TreeItem}
use Rattle.lfs_tool.specs.Actions.{AddsAction}

list_of : (disk : Disk) (items : List TreeItem) (i : ℕ) (d : TreeItem) → HaveWellFormedLists disk (tree_items_view items) → i < length items → IsWellFormedList disk (owned_view (get_or items i d).structure)
list_of disk [] i d h l = absurd (omega arith)
list_of disk (x ∷ xs) zero d h l = h.0
list_of disk (x ∷ xs) (suc i) d h l = list_of disk xs i d h.1 (omega arith)

pub list_at : (disk now : Disk) (items : List TreeItem) (i : ℕ) (x : TreeItem) → now ≡ disk → HaveWellFormedLists disk (tree_items_view items) → i < length items → x ≡ get_or items i x
    → IsWellFormedList now (owned_view x.structure)
list_at disk now items i x same h l at = subst (λ d. IsWellFormedList d (owned_view x.structure)) (sym same) (subst (λ z. IsWellFormedList disk (owned_view z.structure)) (sym at) (list_of disk items i x h l))

-- ---- one action more

actions_more : (disk : Disk) (items : List TreeItem) (i : ℕ) (d : TreeItem) → i < length items
    → path_struct_actions disk (tree_items_view (take (suc i) items)) ≡ path_struct_actions disk (tree_items_view (take i items)) ++ path_struct_action disk (tree_item_view (get_or items i d)) ∷ []
actions_more disk [] i d l = absurd (omega arith)
actions_more disk (x ∷ xs) zero d l = refl
actions_more disk (x ∷ xs) (suc i) d l = ap (λ more. path_struct_action disk (tree_item_view x) ∷ more) (actions_more disk xs i d (omega arith))

done_more : (first mid last : Option (List UnpackingAction)) (some : List UnpackingAction) (a : UnpackingAction) → HasDoneActions first mid some → AddsAction mid last a → HasDoneActions first last (some ++ a ∷ [])
done_more None mid last some a h more = tt
done_more (Some old) None last some a h more = absurd h
done_more (Some old) (Some m) None some a h more = absurd more
done_more (Some old) (Some m) (Some l) some a h more = more ∙ ap (λ xs. xs ++ a ∷ []) h ∙ append_assoc old some (a ∷ [])

pub done_item : (disk now : Disk) (items : List TreeItem) (i : ℕ) (x : TreeItem) (first mid last : Option (List UnpackingAction)) → now ≡ disk → i < length items → x ≡ get_or items i x
    → HasDoneActions first mid (path_struct_actions disk (tree_items_view (take i items))) → AddsAction mid last (path_struct_action now (tree_item_view x)) → HasDoneActions first last (path_struct_actions disk (tree_items_view (take (i + 1) items)))
done_item disk now items i x first mid last same l at h more =
    let here = subst (λ d. AddsAction mid last (path_struct_action d (tree_item_view x))) same more in
    let there = subst (λ z. AddsAction mid last (path_struct_action disk (tree_item_view z))) at here in
    subst (HasDoneActions first last) (sym (ap (λ k. path_struct_actions disk (tree_items_view (take k items))) (add-one i) ∙ actions_more disk items i x l)) (done_more first mid last _ _ h there)

-- ---- a beginning

actions_take : (disk : Disk) (items : List TreeItem) (i : ℕ) → take i (path_struct_actions disk (tree_items_view items)) ≡ path_struct_actions disk (tree_items_view (take i items))
actions_take disk [] zero = refl
actions_take disk [] (suc i) = refl
actions_take disk (x ∷ xs) zero = refl
actions_take disk (x ∷ xs) (suc i) = ap (λ more. path_struct_action disk (tree_item_view x) ∷ more) (actions_take disk xs i)

pub begun_item : (disk : Disk) (items : List TreeItem) (i : ℕ) (first mid last : Option (List UnpackingAction)) → HasDoneActions first mid (path_struct_actions disk (tree_items_view (take i items))) → last ≡ mid
    → HasDoneActionsPrefix first last (path_struct_actions disk (tree_items_view items))
begun_item disk items i first mid last h same =
    (i, subst (HasDoneActions first last) (sym (actions_take disk items i)) (subst (λ o. HasDoneActions first o (path_struct_actions disk (tree_items_view (take i items)))) (sym same) h))

pub at_error : {X E : Type 0} (r : Result X E) (P : Type 0) → P → OnErr r P
at_error (Ok x) P h = tt
at_error (Err e) P h = h

-- ---- reads behind reads

pub only_trans : {first mid last : KeptThread} → OnlyReadsThread first mid → OnlyReadsThread mid last → OnlyReadsThread first last
only_trans one two = record {
  disk = two.disk ∙ one.disk;
  reads = OnlyReadsSince-trans one.reads two.reads (ap (λ (d : Disk). d.blocks) one.disk);
  pairs = two.pairs ∙ one.pairs;
  map = two.map ∙ one.map;
}
