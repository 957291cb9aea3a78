mod SelfLemmas
