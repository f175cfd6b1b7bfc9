-- What a cursor sees and takes, of the text that it keeps.
use Rattle.std.proofs.Common.{◌≡◌, ℕ, ◌≤◌, true, false, List, length, Some, None, Option, is_some, Ok, Err, Result, ◌∙◌, sym, refl, subst}
use Rattle.refusal.specs.declared.Fault.{Fault}
use Rattle.formula.specs.declared.Comparison.{Comparison}
use Rattle.grammar.specs.declared.cursor.Cursor.{Cursor}
use Rattle.grammar.specs.declared.table.Word.{Word as WordEntry}
use Rattle.grammar.specs.declared.table.Number.{Number as NumberEntry}
use Rattle.grammar.specs.declared.token.Class.{Class}
use Rattle.grammar.specs.declared.token.Class.TheVariants as class
use Rattle.grammar.specs.declared.token.Ahead.{Ahead}
use Rattle.grammar.specs.Parsing.{Read, read_to, Peeked, Along, Sees, PassedIf, Takes, Taken, name_in, number_in, sign_in, NameRead, NumberRead, SignRead}
use Rattle.grammar.proofs.Leaves.{no, refused_at, name_read, name_stops, number_read, number_stops, sign_read, sign_stops}

pub sees : (c : Cursor) {h : Ahead} → Peeked c.text.now c.at h → Sees c h
sees c {h} k text e = subst (λ z. Peeked z c.at h) e k

pub along : (b a : Cursor) (P : List ℕ → Type 0) → a.text.now ≡ b.text.now → P b.text.now → Along b a P
along b a P e p text q = (e ∙ q, subst P q p)

-- what is read up to the place of a token that was taken, or is refused at it
taken :
    {A : Type 0} (b a : Cursor) (h : Ahead) (o : Option A) (r : Result A Fault)
    (P : List ℕ → ℕ → Result (Read A) Fault → Type 0)
    → Sees b h
    → Taken b a h o r
    → ((text : List ℕ) → Peeked text b.at h → (v : A) → o ≡ Some v → P text b.at (Ok (record { value = v; end = h.end })))
    → ((text : List ℕ) → Peeked text b.at h → o ≡ None → P text b.at (Err (refused_at h.place)))
    → Takes b a r P
taken b a h (Some v) r P k (e, at, same) f g =
    along b a _ same
    (subst (λ x. P b.text.now b.at (read_to a.at x)) (sym e)
    (subst (λ q. P b.text.now b.at (Ok (record { value = v; end = q }))) (sym at) (f _ (k _ refl) v refl)))
taken b a h None r P k (e, same) f g =
    along b a _ same
    (subst (λ x. P b.text.now b.at (read_to a.at x)) (sym e) (g _ (k _ refl) refl))

named : (k : Class) (v : WordEntry) → name_in k ≡ Some v → k ≡ class.Name v
named (class.Name w) v e = cc
named _ v e = absurd (no (cc))

pub name_taken :
    (b a : Cursor) (h : Ahead) (o : Option WordEntry) (r : Result WordEntry Fault)
    → Sees b h
    → o ≡ name_in h.class
    → Taken b a h o r
    → Takes b a r NameRead
name_taken b a h o r k e t =
    taken b a h o r NameRead k t
    (λ text p v is. name_read text b.at h p v (named h.class v (sym e ∙ is)))
    (λ text p is. name_stops text b.at h p _ refl (λ v q. no (cc)))

pub numbered : (k : Class) (p : ℕ) (v : NumberEntry) → number_in k p ≡ Some v → (k ≡ class.Number v.value) × (v.place ≡ p)
numbered (class.Number n) p v e = (cc, cc)
numbered _ p v e = absurd (no (cc))

pub number_taken :
    (b a : Cursor) (h : Ahead) (o : Option NumberEntry) (r : Result NumberEntry Fault)
    → Sees b h
    → o ≡ number_in h.class h.place
    → Taken b a h o r
    → Takes b a r NumberRead
number_taken b a h o r k e t =
    taken b a h o r NumberRead k t
    (λ text p v is.
    let n = numbered h.class h.place v (sym e ∙ is) in
    subst (λ q. NumberRead text b.at (Ok (record { value = record { value = v.value; place = q }; end = h.end })))
    (sym n.1) (number_read text b.at h p v.value n.0))
    (λ text p is. number_stops text b.at h p _ refl (λ v q. no (cc)))

signed : (k : Class) (v : Comparison) → sign_in k ≡ Some v → k ≡ class.Compare v
signed (class.Compare w) v e = cc
signed _ v e = absurd (no (cc))

pub sign_taken :
    (b a : Cursor) (h : Ahead) (o : Option Comparison) (r : Result Comparison Fault)
    → Sees b h
    → o ≡ sign_in h.class
    → Taken b a h o r
    → Takes b a r SignRead
sign_taken b a h o r k e t =
    taken b a h o r SignRead k t
    (λ text p v is. sign_read text b.at h p v (signed h.class v (sym e ∙ is)))
    (λ text p is. sign_stops text b.at h p _ refl (λ v q. no (cc)))

-- the place of a cursor lies in its text
pub within : (c : Cursor) (text : List ℕ) → c.text.now ≡ text → c.at ≤ length text
within c text e = subst (λ t. c.at ≤ length t) e c.inside

pub unnumbered :
    (k : Class) (p : ℕ) (o : Option NumberEntry)
    → o ≡ number_in k p
    → o ≡ None
    → (m : ℕ) → k ≡ class.Number m → ⊥
unnumbered k p o e z m q = no (cc)

-- a token that was passed if it is of the class
module _ (k : Class) (b a : Cursor) where
  pub passed :
      (r : Option ℕ)
      → is_some r ≡ true
      → PassedIf k b a r
      → (h : Ahead) × Sees b h × (h.class ≡ k) × (a.at ≡ h.end) × (a.text.now ≡ b.text.now)
  passed (Some q) s (h, w, (is, there, ended, same)) = (h, w, is, ended, same)
  passed None s f = absurd (no (cc))

  -- or was not: the cursor is where it was
  pub not_passed :
      (r : Option ℕ)
      → is_some r ≡ false
      → PassedIf k b a r
      → (a ≡ b) × ((h : Ahead) × Sees a h × (h.class ≡ k → ⊥))
  not_passed (Some q) s f = absurd (no (cc))
  not_passed None s (h, w, (z, same)) = (same, (h, subst (λ c. Sees c h) (sym same) w, z))
