-- What follows from the history of a device, for those who call it.
use Rattle.std.proofs.Common.{◌≡◌, ◌≢◌, ◌≤◌, ℕ, ◌+◌, Bool, true, false, not, ◌&&◌, if◌then◌else◌, nat_le, nat_lt, ◌==◌, length, arith, List, [], ◌∷◌, ◌++◌, refl, sym, ◌∙◌, ap, subst, append_assoc}
use Rattle.std.specs.Prelude.{All}
use Rattle.lfs_model.proofs.Common.{nat_tests, append_cancel_right, Blocks, LeftByLoss, power_loss_may_leave, DeviceCall, CallEvent, call_event, Read, Program, Erase, Blank, read_count, program_count, fault_count, is_unprogrammed_byte, AllCalls, AllCallsSince, IsRead, LossLeavesAtWorst, HoldsAtLosses}
use Rattle.lfs_model.specs.session.History.{call_reads, may_leave_at_worst, erase_count, call_blank_answers, blank_answer_count, unprogrammed_after, AreUnprogrammed, OthersStayUnprogrammed, OnlyReadsSince}

-- Calls that all have P: none yet, one more, those of another stretch, and what P implies.

pub began : {P : CallEvent → Type 0} {old : List CallEvent} → AllCallsSince P old old
began = record { events = []; extends = refl; each = tt }

pub goes_on : {P : CallEvent → Type 0} {old mid new : List CallEvent} {e : CallEvent} → AllCallsSince P old mid → new ≡ e ∷ mid → P e → AllCallsSince P old new
goes_on {e = e} so_far is here = record {
  events = e ∷ so_far.events;
  extends = is ∙ ap (λ (l : List CallEvent). e ∷ l) so_far.extends;
  each = (here, so_far.each);
}

AllCalls-append : (P : CallEvent → Type 0) (first second : List CallEvent) → AllCalls P first → AllCalls P second → AllCalls P (first ++ second)
AllCalls-append P [] second a b = b
AllCalls-append P (e ∷ first) second a b = (a.0, AllCalls-append P first second a.1 b)

pub goes_on_by : {P : CallEvent → Type 0} {old mid new : List CallEvent} → AllCallsSince P old mid → AllCallsSince P mid new → AllCallsSince P old new
goes_on_by {P} {old} first second = record {
  events = second.events ++ first.events;
  extends = second.extends ∙ ap (λ (l : List CallEvent). second.events ++ l) first.extends ∙ sym (append_assoc second.events first.events old);
  each = AllCalls-append P second.events first.events second.each first.each;
}

AllCalls-weaker : (P Q : CallEvent → Type 0) (events : List CallEvent) → ((e : CallEvent) → P e → Q e) → AllCalls P events → AllCalls Q events
AllCalls-weaker P Q [] of all = tt
AllCalls-weaker P Q (e ∷ events) of all = (of e all.0, AllCalls-weaker P Q events of all.1)

pub AllCallsSince-weaker : {P Q : CallEvent → Type 0} {old new : List CallEvent} → ((e : CallEvent) → P e → Q e) → AllCallsSince P old new → AllCallsSince Q old new
AllCallsSince-weaker {P} {Q} of since = record { events = since.events; extends = since.extends; each = AllCalls-weaker P Q since.events of since.each }

-- What holds of all calls holds of those up to a history between, of those after it, and of the only one.

same_events : {P Q R : CallEvent → Type 0} {old mid new : List CallEvent} (all : AllCallsSince P old new) (first : AllCallsSince Q old mid) (second : AllCallsSince R mid new) → all.events ≡ second.events ++ first.events
same_events {old = old} all first second =
    append_cancel_right all.events (second.events ++ first.events) old
    (sym all.extends ∙ second.extends ∙ ap (λ (l : List CallEvent). second.events ++ l) first.extends ∙ sym (append_assoc second.events first.events old))

AllCalls-parts : (P : CallEvent → Type 0) (first second : List CallEvent) → AllCalls P (first ++ second) → AllCalls P first × AllCalls P second
AllCalls-parts P [] second all = (tt, all)
AllCalls-parts P (e ∷ first) second all = let rest = AllCalls-parts P first second all.1 in ((all.0, rest.0), rest.1)

pub AllCallsSince-until : {P Q R : CallEvent → Type 0} {old mid new : List CallEvent} → AllCallsSince P old new → AllCallsSince Q old mid → AllCallsSince R mid new → AllCallsSince P old mid
AllCallsSince-until {P} all first second = record {
  events = first.events;
  extends = first.extends;
  each = (AllCalls-parts P second.events first.events (subst (AllCalls P) (same_events all first second) all.each)).1;
}

pub AllCallsSince-behind : {P Q R : CallEvent → Type 0} {old mid new : List CallEvent} → AllCallsSince P old new → AllCallsSince Q old mid → AllCallsSince R mid new → AllCallsSince P mid new
AllCallsSince-behind {P} all first second = record {
  events = second.events;
  extends = second.extends;
  each = (AllCalls-parts P second.events first.events (subst (AllCalls P) (same_events all first second) all.each)).0;
}

pub AllCallsSince-only : {P : CallEvent → Type 0} {old new : List CallEvent} {e : CallEvent} → AllCallsSince P old new → new ≡ e ∷ old → P e
AllCallsSince-only {P} {old} {new} {e} all is = (subst (AllCalls P) (append_cancel_right all.events (e ∷ []) old (sym all.extends ∙ is)) all.each).0

-- What a stop leaves, over one call more, over another stretch, and what that implies.

pub HoldsAtLosses-trans : {stops : CallEvent → Blocks → Type 0} {P : Blocks → Type 0} {old mid new : List CallEvent} → HoldsAtLosses stops old mid P → HoldsAtLosses stops mid new P → HoldsAtLosses stops old new P
HoldsAtLosses-trans first second = goes_on_by first second

pub HoldsAtLosses-weaker : {stops : CallEvent → Blocks → Type 0} {P Q : Blocks → Type 0} {old new : List CallEvent}
    → ((disk : Blocks) → P disk → Q disk) → HoldsAtLosses stops old new P → HoldsAtLosses stops old new Q
HoldsAtLosses-weaker of leaves = AllCallsSince-weaker (λ e here disk left. of disk (here disk left)) leaves

-- Counts never fall.

read_count-append : (events old : List CallEvent) → read_count old ≤ read_count (events ++ old)
read_count-append [] old = omega arith
read_count-append (e ∷ events) old = let rest = read_count-append events old in omega arith

fault_count-append : (events old : List CallEvent) → fault_count old ≤ fault_count (events ++ old)
fault_count-append [] old = omega arith
fault_count-append (e ∷ events) old = let rest = fault_count-append events old in omega arith

pub read_count-since : {P : CallEvent → Type 0} {old new : List CallEvent} → AllCallsSince P old new → read_count old ≤ read_count new
read_count-since {old = old} since = rw since.extends (read_count-append since.events old)

pub fault_count-since : {P : CallEvent → Type 0} {old new : List CallEvent} → AllCallsSince P old new → fault_count old ≤ fault_count new
fault_count-since {old = old} since = rw since.extends (fault_count-append since.events old)

-- Where all calls are reads, nothing is written, and a stop leaves what is there.

pub OnlyReadsSince-read : {blocks : Blocks} {old mid new : List CallEvent} {block off len : ℕ} {before after : Blocks} {failed : Bool}
    → OnlyReadsSince blocks old mid → new ≡ call_event (Read block off len) before after failed ∷ mid → before ≡ blocks → after ≡ blocks → OnlyReadsSince blocks old new
OnlyReadsSince-read so_far is was stays = goes_on so_far is (record { reads = refl; before = was; after = stays })

-- another stretch of reads, of the same blocks
pub OnlyReadsSince-trans : {blocks same : Blocks} {old mid new : List CallEvent} → OnlyReadsSince blocks old mid → OnlyReadsSince same mid new → same ≡ blocks → OnlyReadsSince blocks old new
OnlyReadsSince-trans {mid = mid} {new = new} first second is = goes_on_by first (subst (λ d. OnlyReadsSince d mid new) is second)

writes_in_read : (call : DeviceCall) → call_reads call ≡ 1 → (program_count (call_event call [] [] false ∷ []) ≡ 0) × (erase_count (call_event call [] [] false ∷ []) ≡ 0)
writes_in_read (Read block off len) is = (refl, refl)
writes_in_read (Program block off bytes) is = absurd (cc)
writes_in_read (Erase block) is = absurd (cc)
writes_in_read (Blank block off len) is = absurd (cc)

programs_in_reads : (blocks : Blocks) (events old : List CallEvent) → AllCalls (IsRead blocks) events → program_count (events ++ old) ≡ program_count old
programs_in_reads blocks [] old each = refl
programs_in_reads blocks (e ∷ events) old each =
    let here = (writes_in_read e.call each.0.reads).0 in
    let rest = programs_in_reads blocks events old each.1 in
    omega arith

erases_in_reads : (blocks : Blocks) (events old : List CallEvent) → AllCalls (IsRead blocks) events → erase_count (events ++ old) ≡ erase_count old
erases_in_reads blocks [] old each = refl
erases_in_reads blocks (e ∷ events) old each =
    let here = (writes_in_read e.call each.0.reads).1 in
    let rest = erases_in_reads blocks events old each.1 in
    omega arith

blanks_in_read : (call : DeviceCall) → call_reads call ≡ 1 → call_blank_answers call ≡ 0
blanks_in_read (Read block off len) is = refl
blanks_in_read (Program block off bytes) is = refl
blanks_in_read (Erase block) is = refl
blanks_in_read (Blank block off len) is = absurd (cc)

blanks_in_reads : (blocks : Blocks) (events old : List CallEvent) → AllCalls (IsRead blocks) events → blank_answer_count (events ++ old) ≡ blank_answer_count old
blanks_in_reads blocks [] old each = refl
blanks_in_reads blocks (e ∷ events) old each =
    let here = blanks_in_read e.call each.0.reads in
    let rest = blanks_in_reads blocks events old each.1 in
    omega arith

unprogrammed_by_read : (call : DeviceCall) (failed : Bool) (block k : ℕ) (was : Bool) → call_reads call ≡ 1 → unprogrammed_after call failed block k was ≡ was
unprogrammed_by_read (Read at off len) failed block k was is = refl
unprogrammed_by_read (Program at off bytes) failed block k was is = absurd (cc)
unprogrammed_by_read (Erase at) failed block k was is = absurd (cc)
unprogrammed_by_read (Blank at off len) failed block k was is = absurd (cc)

unprogrammed_in_reads : (blocks : Blocks) (events old : List CallEvent) (block k : ℕ) → AllCalls (IsRead blocks) events → is_unprogrammed_byte (events ++ old) block k ≡ is_unprogrammed_byte old block k
unprogrammed_in_reads blocks [] old block k each = refl
unprogrammed_in_reads blocks (e ∷ events) old block k each = unprogrammed_by_read e.call e.failed block k (is_unprogrammed_byte (events ++ old) block k) each.0.reads ∙ unprogrammed_in_reads blocks events old block k each.1

pub program_count-read_count : {blocks : Blocks} {old new : List CallEvent} → OnlyReadsSince blocks old new → program_count new ≡ program_count old
program_count-read_count {blocks} {old} since = ap program_count since.extends ∙ programs_in_reads blocks since.events old since.each

pub erase_count-read_count : {blocks : Blocks} {old new : List CallEvent} → OnlyReadsSince blocks old new → erase_count new ≡ erase_count old
erase_count-read_count {blocks} {old} since = ap erase_count since.extends ∙ erases_in_reads blocks since.events old since.each

pub blank_answer_count-read_count : {blocks : Blocks} {old new : List CallEvent} → OnlyReadsSince blocks old new → blank_answer_count new ≡ blank_answer_count old
blank_answer_count-read_count {blocks} {old} since = ap blank_answer_count since.extends ∙ blanks_in_reads blocks since.events old since.each

pub is_unprogrammed_byte-read_count : {blocks : Blocks} {old new : List CallEvent} (block k : ℕ) → OnlyReadsSince blocks old new → is_unprogrammed_byte new block k ≡ is_unprogrammed_byte old block k
is_unprogrammed_byte-read_count {blocks} {old} block k since = ap (λ (h : List CallEvent). is_unprogrammed_byte h block k) since.extends ∙ unprogrammed_in_reads blocks since.events old block k since.each

pub AreUnprogrammed-read_count : {blocks : Blocks} {old new : List CallEvent} {low high : ℕ} (block : ℕ) → OnlyReadsSince blocks old new → AreUnprogrammed old block low high → AreUnprogrammed new block low high
AreUnprogrammed-read_count block since was k above below = is_unprogrammed_byte-read_count block k since ∙ was k above below

-- under any statement of stops in which a stopped read leaves the disk alone
pub HoldsAtLosses-read_count : {stops : CallEvent → Blocks → Type 0} {P : Blocks → Type 0} {blocks : Blocks} {old new : List CallEvent}
    → ((e : CallEvent) (disk : Blocks) → call_reads e.call ≡ 1 → stops e disk → disk ≡ e.before) → OnlyReadsSince blocks old new → P blocks → HoldsAtLosses stops old new P
HoldsAtLosses-read_count {P = P} stopped since here = AllCallsSince-weaker (λ e is disk left. subst P (sym (stopped e disk is.reads left ∙ is.before)) here) since

pub LossLeavesAtWorst-read : (e : CallEvent) (disk : Blocks) → call_reads e.call ≡ 1 → LossLeavesAtWorst e disk → disk ≡ e.before
LossLeavesAtWorst-read e = at_call e.call e.before
  where
    at_call : (call : DeviceCall) (before disk : Blocks) → call_reads call ≡ 1 → may_leave_at_worst call before disk → disk ≡ before
    at_call (Read block off len) before disk is left = left
    at_call (Program block off bytes) before disk is left = absurd (cc)
    at_call (Erase block) before disk is left = absurd (cc)
    at_call (Blank block off len) before disk is left = absurd (cc)

pub LeftByLoss-read : (e : CallEvent) (disk : Blocks) → call_reads e.call ≡ 1 → LeftByLoss e disk → disk ≡ e.before
LeftByLoss-read e = at_call e.call e.before
  where
    at_call : (call : DeviceCall) (before disk : Blocks) → call_reads call ≡ 1 → power_loss_may_leave call before disk → disk ≡ before
    at_call (Read block off len) before disk is left = left
    at_call (Program block off bytes) before disk is left = absurd (cc)
    at_call (Erase block) before disk is left = absurd (cc)
    at_call (Blank block off len) before disk is left = absurd (cc)

-- Which bytes are unprogrammed after a call.

pub AreUnprogrammed-part : (history : List CallEvent) (block : ℕ) {low high from to : ℕ} → AreUnprogrammed history block low high → low ≤ from → to ≤ high → AreUnprogrammed history block from to
AreUnprogrammed-part history block was above below k from to = was k (omega arith) (omega arith)

-- after an erase each byte of the block
pub is_unprogrammed_byte-erase : {old new : List CallEvent} {block low high : ℕ} {before after : Blocks} → new ≡ call_event (Erase block) before after false ∷ old → AreUnprogrammed new block low high
is_unprogrammed_byte-erase {block = block} is k above below = ap (λ (h : List CallEvent). is_unprogrammed_byte h block k) is ∙ grind (arith, nat_tests)

-- after a program the bytes after it, also one that failed
pub is_unprogrammed_byte-program : {old new : List CallEvent} {block off : ℕ} {bytes : List ℕ} {before after : Blocks} {failed : Bool} {low high later : ℕ} → new ≡ call_event (Program block off bytes) before after failed ∷ old
    → AreUnprogrammed old block low high → low ≤ later → off + length bytes ≤ later → AreUnprogrammed new block later high
is_unprogrammed_byte-program {old} {block = block} {off = off} {bytes = bytes} is was le behind k above below =
    let still : is_unprogrammed_byte old block k ≡ true = was k (omega arith) below in
    let past : nat_lt k (off + length bytes) ≡ false = grind (arith, nat_tests) in
    ap (λ (h : List CallEvent). is_unprogrammed_byte h block k) is ∙ grind (arith, nat_tests, still, past)

-- after the device's word these bytes
pub is_unprogrammed_byte-blank : {old new : List CallEvent} {block off len : ℕ} {before after : Blocks} → new ≡ call_event (Blank block off len) before after false ∷ old → AreUnprogrammed new block off (off + len)
is_unprogrammed_byte-blank {block = block} is k above below = ap (λ (h : List CallEvent). is_unprogrammed_byte h block k) is ∙ grind (arith, nat_tests, above, below)

-- What was unprogrammed outside some blocks and still is.

pub OthersStayUnprogrammed-refl : (bs : List ℕ) (history : List CallEvent) → OthersStayUnprogrammed bs history history
OthersStayUnprogrammed-refl bs history = record { stays = λ b k apart was. was }

pub OthersStayUnprogrammed-trans : {bs : List ℕ} {old mid new : List CallEvent} → OthersStayUnprogrammed bs old mid → OthersStayUnprogrammed bs mid new → OthersStayUnprogrammed bs old new
OthersStayUnprogrammed-trans first second = record { stays = λ b k apart was. second.stays b k apart (first.stays b k apart was) }

-- outside more blocks
pub OthersStayUnprogrammed-wider : {bs : List ℕ} (cs : List ℕ) {old new : List CallEvent} → ((b : ℕ) → All (λ c. c ≢ b) cs → All (λ c. c ≢ b) bs) → OthersStayUnprogrammed bs old new → OthersStayUnprogrammed cs old new
OthersStayUnprogrammed-wider cs among same = record { stays = λ b k apart was. same.stays b k (among b apart) was }

pub OthersStayUnprogrammed-read_count : (bs : List ℕ) {blocks : Blocks} {old new : List CallEvent} → OnlyReadsSince blocks old new → OthersStayUnprogrammed bs old new
OthersStayUnprogrammed-read_count bs since = record { stays = λ b k apart was. is_unprogrammed_byte-read_count b k since ∙ was }

pub OthersStayUnprogrammed-erase : {old new : List CallEvent} {erased : ℕ} {before after : Blocks} {failed : Bool} → new ≡ call_event (Erase erased) before after failed ∷ old → OthersStayUnprogrammed (erased ∷ []) old new
OthersStayUnprogrammed-erase {old} {new} {erased} is = record { stays = step }
  where
    step : (b k : ℕ) → All (λ c. c ≢ b) (erased ∷ []) → is_unprogrammed_byte old b k ≡ true → is_unprogrammed_byte new b k ≡ true
    step b k apart was =
        let differs : erased ≢ b = apart 0 0 (omega arith) in
        let other : (b == erased) ≡ false = grind (arith, nat_tests, differs) in
        ap (λ (h : List CallEvent). is_unprogrammed_byte h b k) is ∙ grind (arith, nat_tests, was, other)

pub OthersStayUnprogrammed-program : {old new : List CallEvent} {programmed off : ℕ} {bytes : List ℕ} {before after : Blocks} {failed : Bool} → new ≡ call_event (Program programmed off bytes) before after failed ∷ old
    → OthersStayUnprogrammed (programmed ∷ []) old new
OthersStayUnprogrammed-program {old} {new} {programmed} is = record { stays = step }
  where
    step : (b k : ℕ) → All (λ c. c ≢ b) (programmed ∷ []) → is_unprogrammed_byte old b k ≡ true → is_unprogrammed_byte new b k ≡ true
    step b k apart was =
        let differs : programmed ≢ b = apart 0 0 (omega arith) in
        let other : (b == programmed) ≡ false = grind (arith, nat_tests, differs) in
        ap (λ (h : List CallEvent). is_unprogrammed_byte h b k) is ∙ grind (arith, nat_tests, was, other)

-- the device's word takes nothing back
kept_or_true : (x was : Bool) → was ≡ true → (if x then true else was) ≡ true
kept_or_true true was is = refl
kept_or_true false was is = is

pub OthersStayUnprogrammed-blank : {old new : List CallEvent} (bs : List ℕ) {block off len : ℕ} {before after : Blocks} {failed : Bool} → new ≡ call_event (Blank block off len) before after failed ∷ old → OthersStayUnprogrammed bs old new
OthersStayUnprogrammed-blank {old} bs {block} {off} {len} {failed = failed} is = record {
  stays = λ b k apart was. ap (λ (h : List CallEvent). is_unprogrammed_byte h b k) is ∙ kept_or_true (not failed && (b == block && nat_le off k && nat_lt k (off + len))) (is_unprogrammed_byte old b k) was;
}

-- where a part of a block is unprogrammed and stays so
pub AreUnprogrammed-stays : {bs : List ℕ} {old new : List CallEvent} {low high : ℕ} (block : ℕ) → OthersStayUnprogrammed bs old new → All (λ c. c ≢ block) bs → AreUnprogrammed old block low high → AreUnprogrammed new block low high
AreUnprogrammed-stays block same apart was k above below = same.stays block k apart (was k above below)

-- what a stop leaves in the sharper sense it leaves at worst
pub LeftByLoss-worst : (e : CallEvent) (disk : Blocks) → LeftByLoss e disk → LossLeavesAtWorst e disk
LeftByLoss-worst e = at_call e.call e.before
  where
    at_call : (call : DeviceCall) (before disk : Blocks) → power_loss_may_leave call before disk → may_leave_at_worst call before disk
    at_call (Read block off len) before disk left = left
    at_call (Program block off bytes) before disk left = left.0
    at_call (Erase block) before disk left = left.0
    at_call (Blank block off len) before disk left = left

pub HoldsAtLosses-worst : {P : Blocks → Type 0} {old new : List CallEvent} → HoldsAtLosses LossLeavesAtWorst old new P → HoldsAtLosses LeftByLoss old new P
HoldsAtLosses-worst since = AllCallsSince-weaker (λ e worst disk left. worst disk (LeftByLoss-worst e disk left)) since
