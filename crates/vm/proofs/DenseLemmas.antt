-- Lemmas on dense spaces: their pages, what stays, and one more page.
use Rattle.vm.proofs.Common.{Ram, KeepsTables, [], ap, arith, cases_eq, eq-eqb, frame_at, Frames, frames_below}
use Rattle.vm.proofs.Common.{frames_for, further_at, inl, inr, is_open, IsDense, IsNode, IsTidy, IsTree, IsTree-same}
use Rattle.vm.proofs.Common.{IsUserLeaf, leaf_at, length, length-made, lookup_of, lookup_of-same, Low, low_is_node}
use Rattle.vm.proofs.Common.{low_node, made, map-append, mapping_below, marks_at, Mid, mid_is_node, mid_node, missing}
use Rattle.vm.proofs.Common.{ne_eqb, no_low, Node, None, Option, page_at, page_in, pages_below, read_at, read_below}
use Rattle.vm.proofs.Common.{refl, right_marks, Some, suc, sym, table_at, table_at-same, table_of, table_of-some}
use Rattle.vm.proofs.Common.{tables_below, tables_for, trap_marks, trap_page, true, unwrap_or, zero, ℕ, ◌%◌, ◌++◌, ◌+◌}
use Rattle.vm.proofs.Common.{◌-◌, ◌/◌, ◌<◌, ◌^◌, ◌∙◌, ◌∷◌, ◌≡◌, ◌≢◌, ◌≤◌, ◌⊎◌}
use Rattle.vm.proofs.HeldLemmas.{frames_for-more, length-tables_for, low-0, mapped-cases, mid-0}

-- ---- the pages

module _ (m : Ram) (r : ℕ) where
  pub pages_below-zero : pages_below m r 0 ≡ []
  unfolding read_below
  pages_below-zero = refl

  pub pages_below-more : (n : ℕ) → pages_below m r (suc n) ≡ pages_below m r n ++ (page_at m r n ∷ [])
  unfolding read_below
  pages_below-more n = map-append (page_in m) (mapping_below m r n) (read_at right_marks m r n ∷ [])

-- ---- what stays where the frames of the tables stay

pub IsTidy-same : (m k : Ram) (r : ℕ) → IsTidy m r → KeepsTables m k r → IsTidy k r
IsTidy-same m k r is same = record {
  used = λ x t nx nr h.
      let u = is.used x t nx nr (sym (table_at-same m k r same x nx) ∙ h) in
      record {
        page = u.page;
        value = u.value;
        inside = u.inside;
        over = u.over;
        mapped = lookup_of-same m k r same u.page ∙ u.mapped;
      };
}

module _ (m : Ram) (r p : ℕ) where
  -- what a lookup finds, by its parts
  pub lookup-parts : {v : ℕ × ℕ} → lookup_of m r p ≡ Some v → lookup_of m r p ≡ Some (frame_at m r p, marks_at m r p)
  lookup-parts e = e ∙ ap Some (ap (λ (o : Option (ℕ × ℕ)). (unwrap_or o (0, 0))) (sym e))

  pub frame_at-is : {f a : ℕ} → lookup_of m r p ≡ Some (f, a) → frame_at m r p ≡ f
  frame_at-is e = ap (λ (o : Option (ℕ × ℕ)). (unwrap_or o (0, 0)).0) e

  pub marks_at-is : {f a : ℕ} → lookup_of m r p ≡ Some (f, a) → marks_at m r p ≡ a
  marks_at-is e = ap (λ (o : Option (ℕ × ℕ)). (unwrap_or o (0, 0)).1) e

pub frame_at-same : (m k : Ram) (r p : ℕ) → lookup_of k r p ≡ lookup_of m r p → frame_at k r p ≡ frame_at m r p
frame_at-same m k r p e = ap (λ (o : Option (ℕ × ℕ)). (unwrap_or o (0, 0)).0) e

pub marks_at-same : (m k : Ram) (r p : ℕ) → lookup_of k r p ≡ lookup_of m r p → marks_at k r p ≡ marks_at m r p
marks_at-same m k r p e = ap (λ (o : Option (ℕ × ℕ)). (unwrap_or o (0, 0)).1) e

-- and where pages are open their frames have no further holder
pub alone-set : (m k : Ram) (r n w p f marks : ℕ) (s q : Frames) → ((v : ℕ) → further_at q v ≤ further_at s v)
    → lookup_of k r p ≡ Some (f, marks) → ((j : ℕ) → j < w → j ≢ p → (j < n) × (lookup_of k r j ≡ lookup_of m r j))
    → (is_open marks ≡ true → further_at q f ≡ 0)
    → ((j : ℕ) → j < n → is_open (marks_at m r j) ≡ true → further_at s (frame_at m r j) ≡ 0) → (j : ℕ) → j < w
    → is_open (marks_at k r j) ≡ true → further_at q (frame_at k r j) ≡ 0
alone-set m k r n w p f marks s q fewer changed others sole alone j h wide = elim (cases_eq j p) [
  | inl same ↦ rw (same, frame_at-is k r p changed)
      (sole (ap is_open (sym (ap (marks_at k r) same ∙ marks_at-is k r p changed)) ∙ wide))
  | inr ne ↦
      let o = others j h ne in
      rw (frame_at-same m k r j o.1)
      (omega (arith, fewer (frame_at m r j), alone j o.0 (ap is_open (sym (marks_at-same m k r j o.1)) ∙ wide)))
]

-- a mapped page has its tables
none-or : (o : Option ℕ) → (o ≡ None) ⊎ (o ≡ Some (unwrap_or o 0))
none-or None = inl refl
none-or (Some t) = inr refl

leaf-table : (m : Ram) (o : Option ℕ) (i : ℕ) {v : ℕ × ℕ} → leaf_at m o i ≡ Some v → o ≡ Some (unwrap_or o 0)
leaf-table m None i e = absurd cc
leaf-table m (Some t) i e = refl

pub mapped-low : (m : Ram) (r p : ℕ) {v : ℕ × ℕ} → lookup_of m r p ≡ Some v
    → table_at m r (low_node p) ≡ Some (table_of m r (low_node p))
unfolding lookup_of
mapped-low m r p {v} e = leaf-table m (table_at m r (low_node p)) (p % 512) e

pub mapped-mid : (m : Ram) (r p : ℕ) {v : ℕ × ℕ} → lookup_of m r p ≡ Some v
    → table_at m r (mid_node p) ≡ Some (table_of m r (mid_node p))
mapped-mid m r p e = elim (none-or (table_at m r (mid_node p))) [
  | inl z ↦ absurd (let none = no_low m r p z in let some = mapped-low m r p e in cc)
  | inr h ↦ h
]

module _ (m k : Ram) (r : ℕ) where
  -- the lists depend on the tables and pages below n alone
  pub frames_below-same : (n : ℕ) → ((p : ℕ) → p < n → lookup_of k r p ≡ lookup_of m r p)
      → frames_below k r n ≡ frames_below m r n
  unfolding frames_below
  frames_below-same zero same = refl
  frames_below-same (suc n) same =
      rw (frame_at-same m k r n (same n (omega arith)), frames_below-same n (λ p h. same p (omega arith))) refl

  pub tables_below-same : (n : ℕ)
      → ((p : ℕ) → (p < n) ⊎ (p ≡ trap_page)
      → (table_of k r (mid_node p) ≡ table_of m r (mid_node p))
      × (table_of k r (low_node p) ≡ table_of m r (low_node p))) → tables_below k r n ≡ tables_below m r n
  unfolding tables_below
  tables_below-same zero same =
      let trap = same trap_page (inr refl) in
      rw (trap.0, trap.1) refl
  tables_below-same (suc n) same =
      let here = same n (inl (omega arith)) in
      let rest : tables_below k r n ≡ tables_below m r n =
      tables_below-same n (λ p o. same p (elim o [ inl low ↦ inl (omega arith) | inr e ↦ inr e ])) in
      rw (here.0, here.1, rest) refl

-- ---- which tables the next page needs

no-mid : (m : Ram) (r t : ℕ) → IsDense m r t 0 → table_at m r (mid_node 0) ≡ None
no-mid m r t is = elim (none-or (table_at m r (mid_node 0))) [
  | inl e ↦ e
  | inr e ↦ absurd (
      let u = is.tidy.used (mid_node 0) (table_of m r (mid_node 0)) (mid_is_node 0) (λ g. cc) e in
      elim (mapped-cases is u.page u.inside u.mapped) [
        | inl low ↦ omega arith
        | inr trap ↦ elim u.over [
          | inl same ↦ let g : Mid 0 ≡ Mid 255 = same ∙ ap mid_node trap in let z : ◌≡◌ {A = ℕ} 0 255 =
              cc in omega arith
          | inr same ↦ cc
        ]
      ])
]

module _ {m : Ram} {r t n : ℕ} (is : IsDense m r t n) where
  pub IsDense-same : (k : Ram) → length k ≡ length m → KeepsTables m k r → IsDense k r t n
  IsDense-same k len same =
      let looks = lookup_of-same m k r same in
      record {
        tree = IsTree-same m k r same is.tree len;
        tidy = IsTidy-same m k r is.tidy same;
        small = is.small;
        pages = λ p h. lookup-parts k r p (looks p ∙ is.pages p h);
        leaves = λ p h. rw (marks_at-same m k r p (looks p)) (is.leaves p h);
        trap = looks trap_page ∙ is.trap;
        rest = λ p high small ne. looks p ∙ is.rest p high small ne;
      }

  -- one page is mapped, and the others are as they were
  pub dense-set : (k : Ram) (w p f marks : ℕ) → IsTree k r → IsTidy k r → p < w → w ≤ 32768
      → lookup_of k r p ≡ Some (f, marks) → IsUserLeaf marks
      → ((j : ℕ) → j < 2 ^ 27 → j ≢ p → lookup_of k r j ≡ lookup_of m r j) → n ≤ w
      → ((j : ℕ) → j < w → j ≢ p → j < n) → IsDense k r t w
  dense-set k w p f marks tree tidy low small changed leaf looks more within = record {
    tree = tree;
    tidy = tidy;
    small = small;
    pages = λ j h. elim (cases_eq j p) [
      | inl here ↦ lookup-parts k r j (ap (lookup_of k r) here ∙ changed)
      | inr ne ↦ lookup-parts k r j (looks j (omega arith) ne ∙ is.pages j (within j h ne))
    ];
    leaves = λ j h. elim (cases_eq j p) [
      | inl here ↦ rw (here, marks_at-is k r p changed) leaf
      | inr ne ↦ rw (marks_at-same m k r j (looks j (omega arith) ne)) (is.leaves j (within j h ne))
    ];
    trap = looks trap_page (omega arith) (omega arith) ∙ is.trap;
    rest = λ j high bound ne. looks j bound (omega arith) ∙ is.rest j (omega arith) bound ne;
  }

  -- the tables and pages stay
  pub held-same : (k : Ram) → ((p : ℕ) → p < n → lookup_of k r p ≡ lookup_of m r p)
      → ((x : Node) (u : ℕ) → IsNode x → table_at m r x ≡ Some u → table_at k r x ≡ Some u)
      → (tables_below k r n ≡ tables_below m r n) × (frames_below k r n ≡ frames_below m r n)
  held-same k looks stand =
      let both : (p : ℕ) (v : ℕ × ℕ) → lookup_of m r p ≡ Some v
      → (table_of k r (mid_node p) ≡ table_of m r (mid_node p))
      × (table_of k r (low_node p) ≡ table_of m r (low_node p)) = λ p v h. (
        table_of-some k r (mid_node p) (table_of m r (mid_node p))
            (stand (mid_node p) (table_of m r (mid_node p)) (mid_is_node p) (mapped-mid m r p h)),
        table_of-some k r (low_node p) (table_of m r (low_node p))
            (stand (low_node p) (table_of m r (low_node p)) (low_is_node p) (mapped-low m r p h)),
      ) in (
        tables_below-same m k r n (λ p o. elim o [
          | inl low ↦ both p (frame_at m r p, marks_at m r p) (is.pages p low)
          | inr e ↦ both p (t, trap_marks) (ap (lookup_of m r) e ∙ is.trap)
        ]),
        frames_below-same m k r n looks,
      )

  no-low : n < 32768 → n % 512 ≡ 0 → table_at m r (low_node n) ≡ None
  no-low small start = elim (none-or (table_at m r (low_node n))) [
    | inl e ↦ e
    | inr e ↦ absurd (
        let u = is.tidy.used (low_node n) (table_of m r (low_node n)) (low_is_node n) (λ g. cc) e in
        elim u.over [
          | inl same ↦ cc
          | inr same ↦ elim (mapped-cases is u.page u.inside u.mapped) [
            | inl low ↦
                let g : Low 0 (n / 512) ≡ Low 0 (u.page / 512) = sym (low-0 n small) ∙ same
                ∙ low-0 u.page (omega arith) in
                let z : n / 512 ≡ u.page / 512 = cc in
                omega arith
            | inr trap ↦
                let g : Low 0 (n / 512) ≡ Low 255 511 = sym (low-0 n small) ∙ same ∙ ap low_node trap in
                let z : ◌≡◌ {A = ℕ} 0 255 = cc in
                omega arith
          ]
        ])
  ]

  some-mid : n < 32768 → n ≢ 0 → table_at m r (mid_node n) ≡ Some (table_of m r (mid_node n))
  some-mid small ne =
      let e : mid_node 0 ≡ mid_node n = mid-0 0 (omega arith) ∙ sym (mid-0 n small) in
      rw (← e) (mapped-mid m r 0 (is.pages 0 (omega arith)))

  some-low : n < 32768 → n % 512 ≢ 0 → table_at m r (low_node n) ≡ Some (table_of m r (low_node n))
  some-low small ne =
      let block : (n - 1) / 512 ≡ n / 512 = omega arith in
      let e : low_node (n - 1) ≡ low_node n = low-0 (n - 1) (omega arith) ∙ ap (Low 0) block ∙ sym (low-0 n small) in
      rw (← e) (mapped-low m r (n - 1) (is.pages (n - 1) (omega arith)))

  -- the tables that were added are those that the next page needs
  pub made-tables : (k : Ram) → n < 32768 → made m k r n ≡ tables_for k r n
  unfolding made
  made-tables k small = elim (cases_eq n 0) [
    | inl first ↦ rw first (let none = no-mid m r t (rw first at is) in rw none refl)
    | inr later ↦ elim (cases_eq (n % 512) 0) [
      | inl start ↦ rw (some-mid small later, no-low small start, ne_eqb n 0 later, eq-eqb (n % 512) 0 start) refl
      | inr inner ↦ rw (some-mid small later, some-low small inner, ne_eqb n 0 later, ne_eqb (n % 512) 0 inner) refl
    ]
  ]

  pub missing-next : n < 32768 → 1 + frames_for n + missing m r n ≡ frames_for (suc n)
  missing-next small = omega
      (arith, length-made m m r n, ap length (made-tables m small), length-tables_for m r n, frames_for-more n)
