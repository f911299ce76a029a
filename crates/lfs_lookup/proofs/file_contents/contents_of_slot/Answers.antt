use Rattle.std.proofs.Common.{◌∙◌, ◌<◌, ℕ, List, ap, length, subst, sym}
use Rattle.lfs_lookup.proofs.Common.{Inline, IsStorageOfStruct}
use Rattle.lfs_lookup.proofs.FileContentsAt.{whole}
use Rattle.lfs_lookup.proofs.file_contents.contents_of_slot.Goals as goal

pub returns-in_ok-bytes-in-Inline-clause-is : goal.returns-in_ok-bytes-in-Inline-clause-is
returns-in_ok-bytes-in-Inline-clause-is g c held is =
    let k = subst (λ z. IsStorageOfStruct z held.struct) c.in-Inline.is is.shows in
    let same = c.in_ok-bytes-in-Inline.ensures.bytes held k.0 is.there k.1.0 ∙ whole k.0 _ k.1.1.0 in
    record { struct = ap Inline same ∙ sym k.1.0; fits = subst (λ n. n < 0x3ff) (sym (ap (λ (b : List ℕ). length b) same ∙ k.1.1.0)) k.1.1.1 }

pub returns-in-List-clause-is : goal.returns-in-List-clause-is
returns-in-List-clause-is g c held is =
    record { struct = sym (subst (λ z. IsStorageOfStruct z held.struct) c.in-List.is is.shows); fits = tt }

pub returns-in_ok-bytes-in-Inline-clause-no_call : goal.returns-in_ok-bytes-in-Inline-clause-no_call
returns-in_ok-bytes-in-Inline-clause-no_call g c = c.read_inline_at.ensures.no_call c.requires.cached_log

pub returns-in_err-bytes-in-Inline-clause-no_call : goal.returns-in_err-bytes-in-Inline-clause-no_call
returns-in_err-bytes-in-Inline-clause-no_call g c = c.read_inline_at.ensures.no_call c.requires.cached_log
