-- What a walk reads, by the tables that its entries name.
use Rattle.std.proofs.Common.{ap, length, List, None, Some, sym, ℕ, [], ◌%◌, ◌/◌, ◌∙◌, ◌∷◌, ◌≡◌}
use Rattle.sv39.specs.Walk.{entry_of}
use Rattle.walks.specs.Walks.{entries_read, read_high, read_in, read_low, read_middle, read_on, root_table, table_at}

module _ (m : List (List ℕ)) (root page : ℕ) where
  pub read-none : None ≡ root_table (length m) root page → entries_read m root page ≡ []
  unfolding entries_read
  read-none none = ap (read_in (read_high m page)) (sym none)

  module _ {high first : ℕ} (begins : Some high ≡ root_table (length m) root page)
      (one : first ≡ entry_of m high (page / 262144 % 512)) where
    first-read : entries_read m root page ≡ read_on m (read_middle m page) first
    unfolding entries_read
    first-read = ap (read_in (read_high m page)) (sym begins) ∙ ap (read_on m (read_middle m page)) (sym one)

    pub read-one : None ≡ table_at (length m) first → entries_read m root page ≡ first ∷ []
    read-one none = first-read ∙ ap (λ t. first ∷ read_in (read_middle m page) t) (sym none)

    module _ {middle second : ℕ} (leads : Some middle ≡ table_at (length m) first)
        (two : second ≡ entry_of m middle (page / 512 % 512)) where
      second-read : entries_read m root page ≡ first ∷ read_on m (read_low m page) second
      second-read = first-read ∙ ap (λ t. first ∷ read_in (read_middle m page) t) (sym leads)
          ∙ ap (λ e. first ∷ read_on m (read_low m page) e) (sym two)

      pub read-two : None ≡ table_at (length m) second → entries_read m root page ≡ first ∷ second ∷ []
      read-two none = second-read ∙ ap (λ t. first ∷ second ∷ read_in (read_low m page) t) (sym none)

      pub read-three : {low third : ℕ} → Some low ≡ table_at (length m) second
          → third ≡ entry_of m low (page / 1 % 512) → entries_read m root page ≡ first ∷ second ∷ third ∷ []
      read-three goes three = second-read ∙ ap (λ t. first ∷ second ∷ read_in (read_low m page) t) (sym goes)
          ∙ ap (λ e. first ∷ second ∷ e ∷ []) (sym three)
