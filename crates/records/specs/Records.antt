-- Records of a case file: one byte of kind, then a body whose length the kind fixes.
use Rattle.std.specs.Prelude.{◌≡◌, Bool, true, false, cond, ◌&&◌, List, [], ℕ, ◌+◌, ◌-◌, ◌≤◌, ◌<◌, eqb, ltb, length, get_or, take, drop, Result, Ok, Err, MatchResult}
use Rattle.records.specs.declared.Kind.{Kind}
use Rattle.records.specs.declared.Kind.TheVariants.{Size, Fragment, Event, End}
use Rattle.records.specs.declared.Missing.{Missing}
use Rattle.records.specs.declared.Missing.TheVariants.{Cut, Unknown}

-- 1 size, 2 fragment, 3 event, 4 end
unfoldable pub known : ℕ → Bool
known kind = ltb 0 kind && ltb kind 5

abbrev pub code_of : Kind → ℕ
code_of Size = 1
code_of Fragment = 2
code_of Event = 3
code_of End = 4

-- the kind that a byte stands for
abbrev pub Decodes : ℕ → Result Kind Missing → Type 0
Decodes code r = MatchResult r (λ kind. code_of kind ≡ code) (λ e. (e ≡ Unknown) × (known code ≡ false))

unfoldable pub body_length : ℕ → ℕ
body_length kind = cond (eqb kind 1) 6 (cond (eqb kind 2) 8 (cond (eqb kind 3) 6 0))

-- what stands at an offset: a body of so many bytes; or the file ends where a kind or body byte is due; or an unknown kind
unfoldable pub found : List ℕ → ℕ → Result ℕ Missing
found file at =
    let kind = get_or file at 0 in
    cond (ltb (length file) (at + 1)) (Err Cut) (cond (known kind) (cond (ltb (length file - (at + 1)) (body_length kind)) (Err Cut) (Ok (body_length kind))) (Err Unknown))

-- its number: 0, or that of a refusal
abbrev pub number : Result ℕ Missing → ℕ
number (Ok n) = 0
number (Err Cut) = 21
number (Err Unknown) = 22

-- the part of the file that it names
unfoldable pub part : List ℕ → ℕ → Result ℕ Missing → List ℕ
part file at (Ok n) = take n (drop (at + 1) file)
part file at (Err missing) = []

-- the body of the record at an offset; an empty part where there is none
unfoldable pub body : List ℕ → ℕ → List ℕ
body file at = part file at (found file at)

-- a whole record: a known kind, and as many bytes behind it as the kind fixes
pub record Whole (file : List ℕ) (at : ℕ) : Type 0 where
  pub kind_known : known (get_or file at 0) ≡ true
  pub fits : at + 1 + body_length (get_or file at 0) ≤ length file

-- what is found, and what its number says of the file
pub record Finds (file : List ℕ) (at : ℕ) (f : Result ℕ Missing) : Type 0 where
  pub exact : f ≡ found file at
  pub is_whole : number f ≡ 0 → Whole file at
  pub is_cut : number f ≡ 21 → length file < at + 1 + body_length (get_or file at 0)
  pub is_unknown : number f ≡ 22 → (at < length file) × (known (get_or file at 0) ≡ false)

-- the kind of what is found
abbrev pub FindsKind : List ℕ → ℕ → Result Kind Missing → Type 0
FindsKind file at r =
    MatchResult r (λ kind. (code_of kind ≡ get_or file at 0) × (Ok (body_length (code_of kind)) ≡ found file at)) (λ e. Err e ≡ found file at)
