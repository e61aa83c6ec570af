mod SayingLemmas
