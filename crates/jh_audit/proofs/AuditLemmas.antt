-- What the audit concludes of an operation from what it found of it.
use Rattle.std.proofs.Common.{◌≡◌, ℕ, ◌+◌, ◌<◌, List, length, get_or, true, false, Some, refl, ap, sym, subst, ◌∙◌, inl, inr}
use Rattle.std.specs.Prelude.{slice_get}
use Rattle.std.specs.Option.{option_map}
use Rattle.std.proofs.lemmas.Bool.{cases_order}
use Rattle.std.proofs.lemmas.List.Sums.{count_by_more_yes, count_by_more_no}
use Rattle.std.proofs.lemmas.Option.{slice_get-map, slice_get_read, slice_get_within, get_or_from_slice_get}
use Rattle.jh_ops.specs.Operation.{Operation, operation, operations}
use Rattle.jh_ops.specs.declared.operation.Op.{Op}
use Rattle.jh_simnode.specs.declared.events.Event.{Event}
use Rattle.jh_simnode.specs.declared.schedule.Entry.{Entry}
use Rattle.jh_audit.specs.declared.checks.AuditFault.{AuditFault}
use Rattle.jh_audit.specs.declared.checks.AuditFault.TheVariants.{BadOp, NoEvent, WrongEvent, Repeat, Unpaired, WrongOrder, Unnamed}
use Rattle.jh_audit.specs.declared.forms.Form.{Form}
use Rattle.jh_audit.specs.Forms.{Says, SaysAt, event_in}
use Rattle.jh_audit.specs.Audit.{AreSoundBelow, HasFaultAt, FollowsInvocation, IsFirstFault, IsInOrder, IsOverBy, IsOverAt, IsJustBefore}
use Rattle.jh_audit.specs.HorizonInside.{NamesBelow}
use Rattle.jh_audit.specs.Plans.{EndsEntry, EndsEntryAt, IsInTurn, is_answered_step, steps_below}
use Rattle.jh_audit.proofs.ChoiceLemmas.{same_some}
use Rattle.jh_audit.proofs.FormLemmas.{says_form_at}

-- a fault at the least place is the first
pub first_fault : (j : List Event) (h : List Operation) (i : ℕ) (e : AuditFault) → i < length h → AreSoundBelow j h i → HasFaultAt j h i e → IsFirstFault j h e
first_fault j h i (BadOp n) low sound fault = (i, low, sound, fault)
first_fault j h i (NoEvent n) low sound fault = (i, low, sound, fault)
first_fault j h i (WrongEvent n) low sound fault = (i, low, sound, fault)
first_fault j h i (Repeat n) low sound fault = (i, low, sound, fault)
first_fault j h i (Unpaired n) low sound fault = (i, low, sound, fault)
first_fault j h i (WrongOrder n) low sound fault = (i, low, sound, fault)
first_fault j h i (Unnamed n) low sound fault = absurd fault

-- what a contract sees of the operation that is read at a place
pub op_at : (h : List Op) (place : ℕ) (op : Op) → place < length h → op ≡ get_or h place op → slice_get (operations h) place ≡ Some (operation op)
op_at h place op low is = slice_get-map operation h place ∙ ap (option_map operation) (slice_get_read h (length h) place op refl low is)

pub says_of : (h : List Operation) (place : ℕ) (op : Operation) (form : Form) → slice_get h place ≡ Some op → SaysAt h place form → Says place op form
says_of h place op form at says = subst (λ o. Says place o form) (same_some says.0 op (sym says.1 ∙ at)) says.2

-- what a contract sees of the operation that is read at a place, and what that says
pub read_at : (h : List Op) (place : ℕ) (op : Op) (form : Form) → place < length h → op ≡ get_or h place op → SaysAt (operations h) place form
    → (slice_get (operations h) place ≡ Some (operation op)) × Says place (operation op) form
read_at h place op form low is says =
    let at = op_at h place op low is in (at, says_of (operations h) place (operation op) form at says)

-- an operation says one thing
pub one_form : (h : List Operation) (place : ℕ) (f g : Form) → SaysAt h place f → SaysAt h place g → f ≡ g
one_form h place f g these those = same_some f g (sym (says_form_at h place f these) ∙ says_form_at h place g those)

-- one place is just before another
pub one_before : (h : List Operation) (a b place : ℕ) → IsJustBefore h a place → IsJustBefore h b place → a ≡ b
one_before h a b place this that =
    elim (cases_order a b) [
      | inl same ↦ same
      | inr apart ↦ elim apart [ inl low ↦ absurd (this.2 b low that.0 that.1) | inr low ↦ absurd (that.2 a low this.0 this.1) ]
    ]

-- ---- pairs

pub over_at : (h : List Operation) (place : ℕ) (op : Operation) (form : Form) → slice_get h place ≡ Some op → SaysAt h place form
    → IsOverBy op form → IsOverAt h place
over_at h place op form at says over = (op, form, at, says_of h place op form at says, over)

pub over_form : (h : List Operation) (place : ℕ) (op : Operation) (form : Form) → slice_get h place ≡ Some op → SaysAt h place form
    → IsOverAt h place → IsOverBy op form
over_form h place op form at says over =
    let same_op : over.0 ≡ op = same_some over.0 op (sym over.2 ∙ at) in
    let same_form : over.1 ≡ form = one_form h place over.1 form (over.0, over.2, over.3) says in
    subst (λ o. IsOverBy o form) same_op (subst (λ f. IsOverBy over.0 f) same_form over.4)

-- what is said just before a place that follows
followed : (h : List Operation) (k place : ℕ) (asked : Form) → IsJustBefore h k place → FollowsInvocation h place asked → SaysAt h k asked
followed h k place asked before follows = subst (λ m. SaysAt h m asked) (one_before h follows.0 k place follows.1 before) follows.2

pub follows_none : (h : List Operation) (k place : ℕ) (asked : Form) → IsJustBefore h k place → ((form : Form) → SaysAt h k form → ⊥)
    → FollowsInvocation h place asked → ⊥
follows_none h k place asked before none follows = none asked (followed h k place asked before follows)

pub follows_form : (h : List Operation) (k place : ℕ) (form asked : Form) → IsJustBefore h k place → SaysAt h k form
    → FollowsInvocation h place asked → form ≡ asked
follows_form h k place form asked before says follows = one_form h k form asked says (followed h k place asked before follows)

-- ---- order

pub order_from : (h : List Operation) (place asked number : ℕ) (form : Form) → event_in form ≡ Some number → IsJustBefore h asked place
    → NamesBelow h asked number → IsInOrder h place form
order_from h place asked number form names before low e k m d is just under named =
    let at : m < asked = subst (λ n. m < n) (one_before h k asked place just before) under in
    subst (λ n. d < n) (same_some number e (sym names ∙ is)) (low m d at named)

pub order_gives : (h : List Operation) (place asked number : ℕ) (form : Form) → event_in form ≡ Some number → IsJustBefore h asked place
    → IsInOrder h place form → NamesBelow h asked number
order_gives h place asked number form names before order m d under named = order number asked m d names before under named

-- ---- the plan

pub steps_yes : (h : List Operation) (place : ℕ) (op : Operation) → slice_get h place ≡ Some op → is_answered_step op ≡ true
    → steps_below h (place + 1) ≡ steps_below h place + 1
steps_yes h place op at holds =
    count_by_more_yes is_answered_step h place op (slice_get_within h place op at) (ap is_answered_step (get_or_from_slice_get h place op op at) ∙ holds)

pub steps_no : (h : List Operation) (place : ℕ) (op : Operation) → slice_get h place ≡ Some op → is_answered_step op ≡ false
    → steps_below h (place + 1) ≡ steps_below h place
steps_no h place op at other =
    count_by_more_no is_answered_step h place op (slice_get_within h place op at) (ap is_answered_step (get_or_from_slice_get h place op op at) ∙ other)

pub turn_from : (s : List Entry) (j : List Event) (h : List Operation) (place entry : ℕ) → entry ≡ steps_below h place
    → EndsEntryAt s j h place entry → IsInTurn s j h place
turn_from s j h place entry is ends op at answered =
    subst (λ n. EndsEntry s j place op n) is (subst (λ o. EndsEntry s j place o entry) (same_some ends.0 op (sym ends.1 ∙ at)) ends.2)

pub turn_gives : (s : List Entry) (j : List Event) (h : List Operation) (place entry : ℕ) (op : Operation) → entry ≡ steps_below h place
    → slice_get h place ≡ Some op → is_answered_step op ≡ true → IsInTurn s j h place → EndsEntryAt s j h place entry
turn_gives s j h place entry op is at answered turn = (op, at, subst (λ n. EndsEntry s j place op n) (sym is) (turn op at answered))
